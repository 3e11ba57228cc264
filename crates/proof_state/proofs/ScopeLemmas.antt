-- Facts that can be cited follow from what is given.
use Rattle.std.proofs.Common.{ℕ, Option, Some, None, List, [], ◌∷◌, map, subst, inl, ⊎_elim}
use Rattle.std.proofs.lemmas.List.{map-append}
use Rattle.nj_formula.specs.declared.formula.Formula.{Formula}
use Rattle.nj_formula.specs.Statement.{Statement}
use Rattle.nj_formula.specs.Meaning.{meaning}
use Rattle.nj_kernel.specs.Sets.{members, ◌∪◌}
use Rattle.shared_map.specs.Pairs.{Each}
use Rattle.theory_ctx.specs.Facts.{Fact}
use Rattle.theory_ctx.specs.declared.local.Local.{Local}
use Rattle.proof_state.specs.declared.local_fact.LocalFact.{LocalFact}
use Rattle.proof_state.specs.declared.frame.Frame.{Frame}
use Rattle.proof_state.specs.Named.{named_facts}
use Rattle.proof_state.specs.Locals.{around_locals}
use Rattle.proof_state.specs.Follows.{Follows, IsFact}
use Rattle.proof_state.specs.Worth.{Given, IsWorthInside}
use Rattle.proof_state.proofs.KnownSets.{in_either}
use Rattle.proof_state.proofs.KnownFollows.{itself, monotone, cut}

abbrev says : Local → Statement
says local = meaning local.formula

named_follow : (Q : Statement → Type 0) (facts : List LocalFact) → Each (λ fact. Follows Q (meaning fact.formula)) facts
    → (s : Statement) → members (map says (named_facts facts)) s → Follows Q s
named_follow Q [] each s m = elim m [ ]
named_follow Q (fact ∷ facts) each s m = by fact.name (named_follow Q facts each.1 s) m
  where
    by : (name : Option (List ℕ)) → (members (map says (named_facts facts)) s → Follows Q s)
        → members (map says (named_facts (record fact { name = name } ∷ facts))) s → Follows Q s
    by None rest m = rest m
    by (Some n) rest m = ⊎_elim (λ e. subst (Follows Q) e each.0) rest m

module _ (facts : List Fact) (start : Formula) where
  locals_follow : (goal : Formula) (around : List Frame) → IsWorthInside facts start goal around
      → (s : Statement) → members (map says (around_locals around)) s → Follows (Given facts around) s
  locals_follow goal [] worth s m = elim m [ ]
  locals_follow goal (frame ∷ around) worth s m =
      ⊎_elim (named_follow (Given facts (frame ∷ around)) frame.block.facts worth.1.facts s)
      (λ n. monotone (Given facts around) (Given facts (frame ∷ around)) s (λ g p. inl p) (locals_follow frame.block.goal around worth.2 s n))
      (in_either (map says (named_facts frame.block.facts)) (map says (around_locals around)) s
      (subst (λ l. members l s) (map-append says (named_facts frame.block.facts) (around_locals
      around)) m))

  context_given : (around : List Frame) (s : Statement) → IsFact facts s → Given facts around s
  context_given [] s m = m
  context_given (frame ∷ around) s m = inl (context_given around s m)

  -- so what follows from them follows from what is given
  pub scope_follows : (goal : Formula) (around : List Frame) → IsWorthInside facts start goal around
      → Follows (members (map says (around_locals around)) ∪ IsFact facts) (meaning goal) → Follows (Given facts around) (meaning goal)
  scope_follows goal around worth =
      cut (members (map says (around_locals around)) ∪ IsFact facts) (Given facts around) (meaning goal)
      (λ s m. ⊎_elim (locals_follow goal around worth s) (λ n. itself (Given facts around) s (context_given around s n)) m)
