-- A proof that is found proves its goal.
use Rattle.std.proofs.Common.{◌≡◌, ◌≤◌, ℕ, zero, suc, List, Option, Some, option_map, refl, ap, sym, subst, ◌∙◌, arith, ⊎_elim, le_of_suc-le-suc}
use Rattle.std.proofs.lemmas.Option.{same_Some}
use Rattle.nj_formula.specs.declared.formula.Formula.{Formula, out-Formula}
use Rattle.nj_formula.specs.declared.formula.Formula.TheOpen.{Formula-F}
use Rattle.nj_formula.specs.declared.formula.Formula.TheVariants as F
use Rattle.nj_formula.specs.declared.formula.Formula.TheVariants.{rolls-False, rolls-Not, rolls-Or}
use Rattle.nj_formula.specs.Meaning.{meaning}
use Rattle.nj_formula.specs.Statement.{conj, implies}
use Rattle.nj_formula.proofs.KnownFormulas.{is_rolled}
use Rattle.nj_formula.proofs.KnownMeaning.{meaning-And, meaning-Implies}
use Rattle.theory_ctx.specs.declared.local.Local.{Local}
use Rattle.theory_ctx.specs.Locals.{Scoped}
use Rattle.nj_kernel.specs.declared.rule.Rule.TheVariants as R
use Rattle.proof_terms.specs.declared.term.Term.{Term}
use Rattle.proof_terms.specs.declared.term.Term.TheVariants.{ConjI, ConjE1, ConjE2, DisjI1, DisjI2, DisjE, ImpI, ImpE, NotI, NotE, FalseE}
use Rattle.proof_checks.specs.Checks.{checked_within}
use Rattle.proof_checks.specs.Scopes.{inside}
use Rattle.proof_checks.proofs.KnownStatements.{same_is, so_same}
use Rattle.suggest_rules.specs.declared.names.Names.{Names}
use Rattle.suggest_rules.specs.Names.{next_name, assuming}
use Rattle.suggest_rules.specs.Search as S
use Rattle.suggest_rules.specs.Search.{if_so, says_same, is_false, citing, found_by, found_within}
use Rattle.nj_suggest.proofs.KnownFound.{either, so, mapped, paired, among, passing}
use Rattle.nj_suggest.proofs.ProvenLemmas.{IsRight, by_conj_i, by_disj_i1, by_disj_i2, by_imp_i, by_not_i, by_conj_e1, by_conj_e2, by_imp_e, by_not_e, by_false_e, by_disj_e}
use Rattle.nj_suggest.proofs.SeenLemmas.{Means, Sees, assuming-seen}
use Rattle.nj_suggest.proofs.FactLemmas.{false_is, fact_right, usable, says_conj, says_implies}

module _ (aliases : List (List ℕ)) (n : ℕ) (sub : Names → Formula → Option Term) (names : Names) (scope : Scoped) (goal : Formula) where
  -- what `sub` finds of parts is right
  Rights : Type 0
  Rights = (more : Names) (inner : Scoped) → Sees inner.locals more.facts → (g : Formula) (t : Term) → sub more g ≡ Some t → IsRight (checked_within n t g inner)

  Goes : Option Term → Type 0
  Goes o = (t : Term) → o ≡ Some t → IsRight (checked_within (suc n) t goal scope)

  module _ (parts : Rights) (sees : Sees scope.locals names.facts) where
    own : Formula → Local
    own a = record { name = next_name aliases names; formula = a }

    -- a part under one more assumption
    under_own : (a g : Formula) (t : Term) → sub (assuming aliases names a) g ≡ Some t → IsRight (checked_within n t g (inside (Some (own a)) scope))
    unfolding Rights own
    under_own a g t e = parts (assuming aliases names a) (inside (Some (own a)) scope) (assuming-seen aliases names a scope.locals sees) g t e

    introduced_right : (layer : Formula-F Formula) → out-Formula goal ≡ layer → Goes (S.introduced aliases sub names layer)
    unfolding Goes Rights own
    introduced_right (Formula-F.Implies a b) out t e =
        let m = mapped (ImpI (next_name aliases names)) (sub (assuming aliases names a) b) t
        (so (usable aliases R.ImpI) (option_map (ImpI (next_name aliases names)) (sub (assuming aliases names a) b)) t e).1 in
        subst (λ u. IsRight (checked_within (suc n) u goal scope)) m.made (by_imp_i n scope goal (next_name aliases names) m.part a b out (under_own a b m.part m.found_is))
    introduced_right (Formula-F.Not a) out t e =
        let m = mapped (NotI (next_name aliases names)) (sub (assuming aliases names a) F.False) t
        (so (usable aliases R.NotI) (option_map (NotI (next_name aliases names)) (sub (assuming aliases names a) F.False)) t e).1 in
        subst (λ u. IsRight (checked_within (suc n) u goal scope)) m.made (by_not_i n scope goal (next_name aliases names) m.part a out (under_own a F.False m.part m.found_is))
    introduced_right (Formula-F.And a b) out t e =
        let m = paired ConjI (sub names a) (sub names b) t (so (usable aliases R.ConjI) (S.both ConjI (sub names a) (sub names b)) t e).1 in
        subst (λ u. IsRight (checked_within (suc n) u goal scope)) m.made
        (by_conj_i n scope goal m.left m.right a b out (parts names scope sees a m.left m.left_is) (parts names scope sees b m.right m.right_is))
    introduced_right (Formula-F.Or a b) out t e =
        ⊎_elim
        (λ left. let m = mapped DisjI1 (sub names a) t (so (usable aliases R.DisjI1) (option_map DisjI1 (sub names a)) t left).1 in
        subst (λ u. IsRight (checked_within (suc n) u goal scope)) m.made (by_disj_i1 n scope goal m.part a b out (parts names scope sees a m.part m.found_is)))
        (λ right. let m = mapped DisjI2 (sub names b) t (so (usable aliases R.DisjI2) (option_map DisjI2 (sub names b)) t right).1 in
        subst (λ u. IsRight (checked_within (suc n) u goal scope)) m.made (by_disj_i2 n scope goal m.part a b out (parts names scope sees b m.part m.found_is)))
        (either (S.by_rule aliases R.DisjI1 (option_map DisjI1 (sub names a))) (S.by_rule aliases R.DisjI2 (option_map DisjI2 (sub names b))) t e)
    introduced_right Formula-F.False out t e = cc
    introduced_right (Formula-F.Atom p args) out t e = cc
    introduced_right (Formula-F.All x a) out t e = cc
    introduced_right (Formula-F.Exists x a) out t e = cc

    eliminated_right : (local : Local) → Means scope.locals local → (layer : Formula-F Formula) → out-Formula local.formula ≡ layer
        → Goes (S.eliminated aliases sub names goal (citing local) layer)
    unfolding Goes Rights own
    eliminated_right local means (Formula-F.And a b) out t e =
        ⊎_elim
        (λ left. let first = so (usable aliases R.ConjE1) (if_so (says_same a goal) (Some (ConjE1 b (citing local)))) t left in
        let second = so (says_same a goal) (Some (ConjE1 b (citing local))) t first.1 in
        subst (λ u. IsRight (checked_within (suc n) u goal scope)) (same_Some (ConjE1 b (citing local)) t second.1)
        (by_conj_e1 n scope goal b (citing local) (fact_right n scope local (F.And goal b) means
        (so_same (meaning local.formula) (meaning (F.And goal b)) (says_conj local.formula a b out ∙ (ap (λ s. conj s (meaning b)) (same_is (meaning a) (meaning goal) second.0) ∙ sym (meaning-And goal b)))))))
        (λ right. let first = so (usable aliases R.ConjE2) (if_so (says_same b goal) (Some (ConjE2 a (citing local)))) t right in
        let second = so (says_same b goal) (Some (ConjE2 a (citing local))) t first.1 in
        subst (λ u. IsRight (checked_within (suc n) u goal scope)) (same_Some (ConjE2 a (citing local)) t second.1)
        (by_conj_e2 n scope goal a (citing local) (fact_right n scope local (F.And a goal) means
        (so_same (meaning local.formula) (meaning (F.And a goal)) (says_conj local.formula a b out ∙ (ap (conj (meaning a)) (same_is (meaning b) (meaning goal) second.0) ∙ sym (meaning-And a goal)))))))
        (either (S.by_rule aliases R.ConjE1 (if_so (says_same a goal) (Some (ConjE1 b (citing local))))) (S.by_rule aliases R.ConjE2 (if_so (says_same b goal) (Some (ConjE2 a (citing local))))) t e)
    eliminated_right local means (Formula-F.Implies a b) out t e =
        let second = so (says_same b goal) (option_map (ImpE a (citing local)) (sub names a)) t (so (usable aliases R.ImpE) (if_so (says_same b goal) (option_map (ImpE a (citing local)) (sub names a))) t e).1 in
        let m = mapped (ImpE a (citing local)) (sub names a) t second.1 in
        subst (λ u. IsRight (checked_within (suc n) u goal scope)) m.made
        (by_imp_e n scope goal a (citing local) m.part (fact_right n scope local (F.Implies a goal) means
        (so_same (meaning local.formula) (meaning (F.Implies a goal)) (says_implies local.formula a b out ∙ (ap (implies (meaning a)) (same_is (meaning b) (meaning goal) second.0) ∙ sym (meaning-Implies a goal)))))
        (parts names scope sees a m.part m.found_is))
    eliminated_right local means (Formula-F.Not a) out t e =
        let second = so (is_false (out-Formula goal)) (option_map (NotE a (citing local)) (sub names a)) t (so (usable aliases R.NotE) (if_so (is_false (out-Formula goal)) (option_map (NotE a (citing local)) (sub names a))) t e).1 in
        let m = mapped (NotE a (citing local)) (sub names a) t second.1 in
        subst (λ u. IsRight (checked_within (suc n) u goal scope)) m.made
        (by_not_e n scope goal a (citing local) m.part (false_is (out-Formula goal) second.0) (fact_right n scope local (F.Not a) means
        (so_same (meaning local.formula) (meaning (F.Not a)) (ap meaning (is_rolled local.formula (Formula-F.Not a) out ∙ rolls-Not a))))
        (parts names scope sees a m.part m.found_is))
    eliminated_right local means (Formula-F.Or a b) out t e =
        let m = paired (λ u v. DisjE a b (citing local) (next_name aliases names) u (next_name aliases names) v) (sub (assuming aliases names a) goal) (sub (assuming aliases names b) goal) t
        (so (usable aliases R.DisjE) (S.by_cases aliases sub names goal (citing local) a b) t e).1 in
        subst (λ u. IsRight (checked_within (suc n) u goal scope)) m.made
        (by_disj_e n scope goal a b (citing local) (next_name aliases names) m.left m.right (fact_right n scope local (F.Or a b) means
        (so_same (meaning local.formula) (meaning (F.Or a b)) (ap meaning (is_rolled local.formula (Formula-F.Or a b) out ∙ rolls-Or a b))))
        (under_own a goal m.left m.left_is) (under_own b goal m.right m.right_is))
    eliminated_right local means Formula-F.False out t e =
        subst (λ u. IsRight (checked_within (suc n) u goal scope)) (same_Some (FalseE (citing local)) t (so (usable aliases R.FalseE) (Some (FalseE (citing local))) t e).1)
        (by_false_e n scope goal (citing local) (fact_right n scope local F.False means
        (so_same (meaning local.formula) (meaning F.False) (ap meaning (is_rolled local.formula Formula-F.False out ∙ rolls-False)))))
    eliminated_right local means (Formula-F.Atom p args) out t e = cc
    eliminated_right local means (Formula-F.All x a) out t e = cc
    eliminated_right local means (Formula-F.Exists x a) out t e = cc

    found_right : Goes (found_by aliases sub names goal)
    unfolding Goes found_by
    found_right t e =
        ⊎_elim
        (λ cite. let p = passing (Means scope.locals) (λ local. says_same local.formula goal) citing names.facts t sees cite in
        subst (λ u. IsRight (checked_within (suc n) u goal scope)) p.made (fact_right (suc n) scope p.local goal p.holds p.passes))
        (λ rule. ⊎_elim
        (λ intro. introduced_right (out-Formula goal) refl t intro)
        (λ elims. let p = among (Means scope.locals) (λ local. S.eliminated aliases sub names goal (citing local) (out-Formula local.formula)) names.facts t sees elims in
        eliminated_right p.local p.holds (out-Formula p.local.formula) refl t p.found_is)
        (either _ _ t rule))
        (either _ _ t e)

pub within_right : (aliases : List (List ℕ)) (d n : ℕ) → d ≤ n → (names : Names) (scope : Scoped) → Sees scope.locals names.facts
    → (goal : Formula) (t : Term) → found_within aliases d names goal ≡ Some t → IsRight (checked_within n t goal scope)
unfolding found_within Rights Goes
within_right aliases zero n below names scope sees goal t e = cc
within_right aliases (suc d) zero below names scope sees goal t e = absurd (omega (arith, below))
within_right aliases (suc d) (suc n) below names scope sees goal t e =
    found_right aliases n (found_within aliases d) names scope goal
    (λ more inner within g u is. within_right aliases d n (le_of_suc-le-suc below) more inner within g u is) sees t e
