-- A proof that is found can be written, where what it may cite can be.
use Rattle.std.proofs.Common.{◌≡◌, ◌≤◌, inr, ℕ, zero, suc, Bool, true, not, List, Option, Some, option_map, refl, sym, arith, ⊎_elim, le_of_suc-le-suc}
use Rattle.std.specs.List.{AllByRecursion}
use Rattle.std.proofs.lemmas.Option.{same_Some}
use Rattle.nj_formula.specs.declared.formula.Formula.{Formula, out-Formula}
use Rattle.nj_formula.specs.declared.formula.Formula.TheOpen.{Formula-F}
use Rattle.nj_formula.specs.declared.formula.Formula.TheVariants as F
use Rattle.nj_kernel.specs.declared.rule.Rule.{Rule}
use Rattle.nj_kernel.specs.declared.rule.Rule.TheVariants as R
use Rattle.nj_kernel.specs.RuleNames.{rule_name}
use Rattle.nj_syntax.specs.Readable.{IsReadable}
use Rattle.theory_ctx.specs.declared.local.Local.{Local}
use Rattle.proof_terms.specs.declared.term.Term.{Term}
use Rattle.proof_terms.specs.declared.term.Term.TheVariants.{ConjI, ConjE1, ConjE2, DisjI1, DisjI2, DisjE, ImpI, ImpE, NotI, NotE, FalseE}
use Rattle.proof_terms.specs.Slots.{slots}
use Rattle.suggest_rules.specs.declared.names.Names.{Names}
use Rattle.suggest_rules.specs.Names.{is_alias, next_name, assuming}
use Rattle.suggest_rules.specs.Search as S
use Rattle.suggest_rules.specs.Search.{if_so, says_same, is_false, citing, found_by, found_within}
use Rattle.soundness_laws.specs.Citable.{IsCitable}
use Rattle.nj_suggest.proofs.KnownFound.{either, so, mapped, paired, among, passing}
use Rattle.nj_syntax.proofs.KnownParts.{and_readable, or_readable, implies_readable, not_readable, false_readable}
use Rattle.soundness_laws.proofs.FreeRules.{rule_free}
use Rattle.soundness_laws.proofs.NewNames.{next_free_name}
use Rattle.soundness_laws.proofs.RuleParts.{Parts, term_of}
use Rattle.soundness_laws.proofs.Written.{AreWritten, IsPropositional, IsWritten, of_fact}

module _ (aliases : List (List ℕ)) where
  abbrev usable : Rule → Bool
  usable r = not (is_alias aliases (rule_name r))

  by_parts : (n : ℕ) (r : Rule) → IsPropositional r → usable r ≡ true → (p : Parts (slots r)) → AreWritten aliases (IsWritten aliases n) (slots r) p → (t : Term) → term_of r p ≡ t → IsWritten aliases (suc n) t
  by_parts n r kind free p inside t made = inr (record { rule = r; propositional = kind; parts = p; is = sym made; free = rule_free aliases r free; inside = inside })

  fact : (n : ℕ) (local : Local) → IsCitable aliases local → (t : Term) → citing local ≡ t → IsWritten aliases n t
  fact n local citable t made = of_fact aliases n t (record { cite = record { name = local.name; range = record { start = 0; stop = 0 } }; is = sym made; free = citable.0 })

  module _ (n : ℕ) (sub : Names → Formula → Option Term) (names : Names) (goal : Formula) where
    Goes : Option Term → Type 0
    Goes o = (t : Term) → o ≡ Some t → IsWritten aliases (suc n) t

    -- what `sub` finds of parts can be written
    module _ (parts : (more : Names) → AllByRecursion (IsCitable aliases) more.facts → (g : Formula) → IsReadable g → (t : Term) → sub more g ≡ Some t → IsWritten aliases n t)
        (seen : AllByRecursion (IsCitable aliases) names.facts) (readable : IsReadable goal) where
      x : List ℕ
      x = next_name aliases names

      under : (a g : Formula) → IsReadable a → IsReadable g → (t : Term) → sub (assuming aliases names a) g ≡ Some t → IsWritten aliases n t
      under a g own shown t e = parts (assuming aliases names a) ((next_free_name aliases names, own), seen) g shown t e

      introduced_written : (layer : Formula-F Formula) → out-Formula goal ≡ layer → Goes (S.introduced aliases sub names layer)
      unfolding Goes x
      introduced_written (Formula-F.Implies a b) out t e =
          let both = implies_readable goal a b out readable in
          let used = so (usable R.ImpI) (option_map (ImpI x) (sub (assuming aliases names a) b)) t e in
          let m = mapped (ImpI x) (sub (assuming aliases names a) b) t used.1 in
          by_parts n R.ImpI tt used.0 (x, (m.part, tt)) (next_free_name aliases names, (under a b both.0 both.1 m.part m.found_is, tt)) t m.made
      introduced_written (Formula-F.Not a) out t e =
          let used = so (usable R.NotI) (option_map (NotI x) (sub (assuming aliases names a) F.False)) t e in
          let m = mapped (NotI x) (sub (assuming aliases names a) F.False) t used.1 in
          by_parts n R.NotI tt used.0 (x, (m.part, tt)) (next_free_name aliases names, (under a F.False (not_readable goal a out readable) false_readable m.part m.found_is, tt)) t m.made
      introduced_written (Formula-F.And a b) out t e =
          let both = and_readable goal a b out readable in
          let used = so (usable R.ConjI) (S.both ConjI (sub names a) (sub names b)) t e in
          let m = paired ConjI (sub names a) (sub names b) t used.1 in
          by_parts n R.ConjI tt used.0 (m.left, (m.right, tt)) (parts names seen a both.0 m.left m.left_is, (parts names seen b both.1 m.right m.right_is, tt)) t m.made
      introduced_written (Formula-F.Or a b) out t e =
          let both = or_readable goal a b out readable in
          ⊎_elim
          (λ left. let used = so (usable R.DisjI1) (option_map DisjI1 (sub names a)) t left in
          let m = mapped DisjI1 (sub names a) t used.1 in
          by_parts n R.DisjI1 tt used.0 (m.part, tt) (parts names seen a both.0 m.part m.found_is, tt) t m.made)
          (λ right. let used = so (usable R.DisjI2) (option_map DisjI2 (sub names b)) t right in
          let m = mapped DisjI2 (sub names b) t used.1 in
          by_parts n R.DisjI2 tt used.0 (m.part, tt) (parts names seen b both.1 m.part m.found_is, tt) t m.made)
          (either (S.by_rule aliases R.DisjI1 (option_map DisjI1 (sub names a))) (S.by_rule aliases R.DisjI2 (option_map DisjI2 (sub names b))) t e)
      introduced_written Formula-F.False out t e = cc
      introduced_written (Formula-F.Atom p args) out t e = cc
      introduced_written (Formula-F.All y a) out t e = cc
      introduced_written (Formula-F.Exists y a) out t e = cc

      eliminated_written : (local : Local) → IsCitable aliases local → (layer : Formula-F Formula) → out-Formula local.formula ≡ layer
          → Goes (S.eliminated aliases sub names goal (citing local) layer)
      unfolding Goes x
      eliminated_written local citable (Formula-F.And a b) out t e =
          let both = and_readable local.formula a b out citable.1 in
          let cited = fact n local citable (citing local) refl in
          ⊎_elim
          (λ left. let used = so (usable R.ConjE1) (if_so (says_same a goal) (Some (ConjE1 b (citing local)))) t left in
          let made = same_Some (ConjE1 b (citing local)) t (so (says_same a goal) (Some (ConjE1 b (citing local))) t used.1).1 in
          by_parts n R.ConjE1 tt used.0 (b, (citing local, tt)) (both.1, (cited, tt)) t made)
          (λ right. let used = so (usable R.ConjE2) (if_so (says_same b goal) (Some (ConjE2 a (citing local)))) t right in
          let made = same_Some (ConjE2 a (citing local)) t (so (says_same b goal) (Some (ConjE2 a (citing local))) t used.1).1 in
          by_parts n R.ConjE2 tt used.0 (a, (citing local, tt)) (both.0, (cited, tt)) t made)
          (either (S.by_rule aliases R.ConjE1 (if_so (says_same a goal) (Some (ConjE1 b (citing local))))) (S.by_rule aliases R.ConjE2 (if_so (says_same b goal) (Some (ConjE2 a (citing local))))) t e)
      eliminated_written local citable (Formula-F.Implies a b) out t e =
          let both = implies_readable local.formula a b out citable.1 in
          let used = so (usable R.ImpE) (if_so (says_same b goal) (option_map (ImpE a (citing local)) (sub names a))) t e in
          let m = mapped (ImpE a (citing local)) (sub names a) t (so (says_same b goal) (option_map (ImpE a (citing local)) (sub names a)) t used.1).1 in
          by_parts n R.ImpE tt used.0 (a, (citing local, (m.part, tt))) (both.0, (fact n local citable (citing local) refl, (parts names seen a both.0 m.part m.found_is, tt))) t m.made
      eliminated_written local citable (Formula-F.Not a) out t e =
          let own = not_readable local.formula a out citable.1 in
          let used = so (usable R.NotE) (if_so (is_false (out-Formula goal)) (option_map (NotE a (citing local)) (sub names a))) t e in
          let m = mapped (NotE a (citing local)) (sub names a) t (so (is_false (out-Formula goal)) (option_map (NotE a (citing local)) (sub names a)) t used.1).1 in
          by_parts n R.NotE tt used.0 (a, (citing local, (m.part, tt))) (own, (fact n local citable (citing local) refl, (parts names seen a own m.part m.found_is, tt))) t m.made
      eliminated_written local citable (Formula-F.Or a b) out t e =
          let both = or_readable local.formula a b out citable.1 in
          let used = so (usable R.DisjE) (S.by_cases aliases sub names goal (citing local) a b) t e in
          let m = paired (λ u v. DisjE a b (citing local) x u x v) (sub (assuming aliases names a) goal) (sub (assuming aliases names b) goal) t used.1 in
          let free = next_free_name aliases names in
          by_parts n R.DisjE tt used.0 (a, (b, (citing local, (x, (m.left, (x, (m.right, tt)))))))
          (both.0, (both.1, (fact n local citable (citing local) refl, (free, (under a goal both.0 readable m.left m.left_is, (free, (under b goal both.1 readable m.right m.right_is, tt))))))) t m.made
      eliminated_written local citable Formula-F.False out t e =
          let used = so (usable R.FalseE) (Some (FalseE (citing local))) t e in
          by_parts n R.FalseE tt used.0 (citing local, tt) (fact n local citable (citing local) refl, tt) t (same_Some (FalseE (citing local)) t used.1)
      eliminated_written local citable (Formula-F.Atom p args) out t e = cc
      eliminated_written local citable (Formula-F.All y a) out t e = cc
      eliminated_written local citable (Formula-F.Exists y a) out t e = cc

      found_written : Goes (found_by aliases sub names goal)
      unfolding Goes found_by
      found_written t e =
          ⊎_elim
          (λ cite. let p = passing (IsCitable aliases) (λ local. says_same local.formula goal) citing names.facts t seen cite in
          fact (suc n) p.local p.holds t p.made)
          (λ rule. ⊎_elim
          (λ intro. introduced_written (out-Formula goal) refl t intro)
          (λ elims. let p = among (IsCitable aliases) (λ local. S.eliminated aliases sub names goal (citing local) (out-Formula local.formula)) names.facts t seen elims in
          eliminated_written p.local p.holds (out-Formula p.local.formula) refl t p.found_is)
          (either _ _ t rule))
          (either _ _ t e)

  pub within_written : (d n : ℕ) → d ≤ n → (names : Names) → AllByRecursion (IsCitable aliases) names.facts
      → (goal : Formula) → IsReadable goal → (t : Term) → found_within aliases d names goal ≡ Some t → IsWritten aliases n t
  unfolding found_within Goes
  within_written zero n below names seen goal readable t e = cc
  within_written (suc d) zero below names seen goal readable t e = absurd (omega (arith, below))
  within_written (suc d) (suc n) below names seen goal readable t e =
      found_written n (found_within aliases d) names goal
      (λ more inner g shown u is. within_written d n (le_of_suc-le-suc below) more inner g shown u is) seen readable t e
