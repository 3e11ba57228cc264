-- What a node needs, its imports need no more.
use Rattle.std.proofs.Common.{ℕ, List, [], ◌∷◌, Option, Some, None, inl, inr, ⊎_elim}
use Rattle.std.specs.Prelude.{IfSome}
use Rattle.std.specs.List.{AllByRecursion}
use Rattle.std.proofs.Math.Logic.{∥∥₁_map}
use Rattle.nj_formula.specs.Meaning.{meaning}
use Rattle.nj_formula.specs.Statement.{Statement}
use Rattle.theory_ctx.specs.Facts.{Fact}
use Rattle.doc_nodes.specs.Imports.{NodeList}
use Rattle.core_rules.specs.Scratch.{Run}
use Rattle.proof_state.specs.Follows.{Follows}
use Rattle.isar_rules.specs.declared.state.State.{State}
use Rattle.isar_rules.specs.Starts.{facts_at}
use Rattle.soundness_laws.specs.Clean.{AreClean}
use Rattle.soundness_laws.specs.Facts.{AllFollow, FactsFollow}
use Rattle.soundness_laws.specs.Imports.{Needs, itself, imports, IsAxiomAmong}

then_needs : {nodes : NodeList} {p q r : ℕ} → Needs nodes p q → Needs nodes q r → Needs nodes p r
then_needs itself n = n
then_needs (imports pair name at listed place m) n = imports pair name at listed place (then_needs m n)

module _ (nodes : NodeList) (p q : ℕ) (needs : Needs nodes p q) where
  pub clean_below : (runs : List (ℕ × Run State)) → AllByRecursion (λ one. Needs nodes p one.0 → AreClean one.1.commands) runs
      → AllByRecursion (λ one. Needs nodes q one.0 → AreClean one.1.commands) runs
  clean_below [] all = tt
  clean_below (one ∷ runs) all = (λ n. all.0 (then_needs needs n), clean_below runs all.1)

  pub axiom_above : (runs : List (ℕ × Run State)) (f : Statement) → IsAxiomAmong nodes q runs f → IsAxiomAmong nodes p runs f
  axiom_above [] f m = m
  axiom_above (one ∷ runs) f m = ⊎_elim (λ h. inl (then_needs needs h.0, h.1)) (λ n. inr (axiom_above runs f n)) m

module _ (P Q : Statement → Type 0) (into : (f : Statement) → P f → Q f) where
  all_follow : (facts : List Fact) → AllFollow P facts → AllFollow Q facts
  all_follow [] all = tt
  all_follow (fact ∷ facts) all = (∥∥₁_map all.0 one, all_follow facts all.1)
    where
      one : Follows P (meaning fact.1) → Follows Q (meaning fact.1)
      one d = (d.0, λ g m. into g (d.1 g m), d.2)

  pub facts_into : (state : State) → FactsFollow P state → FactsFollow Q state
  facts_into state follow = go (facts_at state.place) follow
    where
      go : (o : Option (List Fact)) → IfSome o (AllFollow P) → IfSome o (AllFollow Q)
      go None follow = tt
      go (Some facts) follow = all_follow facts follow
