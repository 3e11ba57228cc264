-- Rules that introduce, and the one that takes a contradiction, have the same answer for goals that say the same.
use Rattle.std.proofs.Common.{◌≡◌, ℕ, List, None, Ok, refl}
use Rattle.nj_formula.specs.declared.formula.Formula.{Formula}
use Rattle.nj_formula.specs.declared.formula.Formula.TheOpen.{Formula-F}
use Rattle.nj_formula.specs.declared.formula.Formula.TheVariants as F
use Rattle.nj_formula.specs.Meaning.{meaning}
use Rattle.theory_ctx.specs.declared.local.Local.{Local}
use Rattle.theory_ctx.specs.Locals.{Scoped}
use Rattle.proof_terms.specs.declared.term.Term.{Term}
use Rattle.proof_checks.specs.Checks.{and_then, by_one, by_two, of_step, checked_within}
use Rattle.proof_checks.specs.Rows.{conj_i, disj_i1, disj_i2, imp_i, not_i, not_e}
use Rattle.soundness_laws.specs.Alike.{IsAlike, SayAlike}
use Rattle.soundness_laws.proofs.AlikeRules.{Answers, same_not, part_alike, plain, assumed}
use Rattle.soundness_laws.proofs.FormulaLayers.{AlikeLayers, both_false, both_atom, both_not, both_and, both_or, both_implies, both_all, both_exists}
use Rattle.soundness_laws.proofs.TermSteps.{one, two}

module _ (n : ℕ) (parts : Answers n) (goal other : Formula) (scope : Scoped) (locals : List Local) (alike : SayAlike scope.locals locals) where
  pub conj_i_alike : (t u t' u' : Term) → IsAlike t t' → IsAlike u u' → (k m : Formula-F Formula) → AlikeLayers k m
      → and_then (conj_i t u k) (of_step (checked_within n) scope goal) ≡ and_then (conj_i t' u' m) (of_step (checked_within n) (record scope { locals = locals }) other)
  unfolding of_step by_two
  conj_i_alike t u t' u' one_like two_like k m both_false = refl
  conj_i_alike t u t' u' one_like two_like k m both_atom = refl
  conj_i_alike t u t' u' one_like two_like k m (both_not e) = refl
  conj_i_alike t u t' u' one_like two_like k m (both_and {a = a} {b = b} {c = c} {d = d} e f) = λ i. two None None (plain n parts goal other scope locals alike t t' a c one_like e i) (plain n parts goal other scope locals alike u u' b d two_like f i)
  conj_i_alike t u t' u' one_like two_like k m (both_or e f) = refl
  conj_i_alike t u t' u' one_like two_like k m (both_implies e f) = refl
  conj_i_alike t u t' u' one_like two_like k m both_all = refl
  conj_i_alike t u t' u' one_like two_like k m both_exists = refl

  pub disj_i1_alike : (t t' : Term) → IsAlike t t' → (k m : Formula-F Formula) → AlikeLayers k m
      → and_then (disj_i1 t k) (of_step (checked_within n) scope goal) ≡ and_then (disj_i1 t' m) (of_step (checked_within n) (record scope { locals = locals }) other)
  unfolding of_step by_one
  disj_i1_alike t t' like k m both_false = refl
  disj_i1_alike t t' like k m both_atom = refl
  disj_i1_alike t t' like k m (both_not e) = refl
  disj_i1_alike t t' like k m (both_and e f) = refl
  disj_i1_alike t t' like k m (both_or {a = a} {b = b} {c = c} {d = d} e f) = λ i. one None (plain n parts goal other scope locals alike t t' a c like e i)
  disj_i1_alike t t' like k m (both_implies e f) = refl
  disj_i1_alike t t' like k m both_all = refl
  disj_i1_alike t t' like k m both_exists = refl

  pub disj_i2_alike : (t t' : Term) → IsAlike t t' → (k m : Formula-F Formula) → AlikeLayers k m
      → and_then (disj_i2 t k) (of_step (checked_within n) scope goal) ≡ and_then (disj_i2 t' m) (of_step (checked_within n) (record scope { locals = locals }) other)
  unfolding of_step by_one
  disj_i2_alike t t' like k m both_false = refl
  disj_i2_alike t t' like k m both_atom = refl
  disj_i2_alike t t' like k m (both_not e) = refl
  disj_i2_alike t t' like k m (both_and e f) = refl
  disj_i2_alike t t' like k m (both_or {a = a} {b = b} {c = c} {d = d} e f) = λ i. one None (plain n parts goal other scope locals alike t t' b d like f i)
  disj_i2_alike t t' like k m (both_implies e f) = refl
  disj_i2_alike t t' like k m both_all = refl
  disj_i2_alike t t' like k m both_exists = refl

  pub imp_i_alike : (x y : List ℕ) (t t' : Term) → x ≡ y → IsAlike t t' → (k m : Formula-F Formula) → AlikeLayers k m
      → and_then (imp_i x t k) (of_step (checked_within n) scope goal) ≡ and_then (imp_i y t' m) (of_step (checked_within n) (record scope { locals = locals }) other)
  unfolding of_step by_one
  imp_i_alike x y t t' names like k m both_false = refl
  imp_i_alike x y t t' names like k m both_atom = refl
  imp_i_alike x y t t' names like k m (both_not e) = refl
  imp_i_alike x y t t' names like k m (both_and e f) = refl
  imp_i_alike x y t t' names like k m (both_or e f) = refl
  imp_i_alike x y t t' names like k m (both_implies {a = a} {b = b} {c = c} {d = d} e f) = λ i. and_then (part_alike x y a c _ _ e (assumed n parts goal other scope locals alike x y a c t t' b d names e like f) i) (λ s. Ok s)
  imp_i_alike x y t t' names like k m both_all = refl
  imp_i_alike x y t t' names like k m both_exists = refl

  pub not_i_alike : (x y : List ℕ) (t t' : Term) → x ≡ y → IsAlike t t' → (k m : Formula-F Formula) → AlikeLayers k m
      → and_then (not_i x t k) (of_step (checked_within n) scope goal) ≡ and_then (not_i y t' m) (of_step (checked_within n) (record scope { locals = locals }) other)
  unfolding of_step by_one
  not_i_alike x y t t' names like k m both_false = refl
  not_i_alike x y t t' names like k m both_atom = refl
  not_i_alike x y t t' names like k m (both_not {a = a} {c = c} e) = λ i. and_then (part_alike x y a c _ _ e (assumed n parts goal other scope locals alike x y a c t t' F.False F.False names e like refl) i) (λ s. Ok s)
  not_i_alike x y t t' names like k m (both_and e f) = refl
  not_i_alike x y t t' names like k m (both_or e f) = refl
  not_i_alike x y t t' names like k m (both_implies e f) = refl
  not_i_alike x y t t' names like k m both_all = refl
  not_i_alike x y t t' names like k m both_exists = refl

  pub not_e_alike : (a a' : Formula) (t u t' u' : Term) → meaning a ≡ meaning a' → IsAlike t t' → IsAlike u u' → (k m : Formula-F Formula) → AlikeLayers k m
      → and_then (not_e a t u k) (of_step (checked_within n) scope goal) ≡ and_then (not_e a' t' u' m) (of_step (checked_within n) (record scope { locals = locals }) other)
  unfolding of_step by_two
  not_e_alike a a' t u t' u' says one_like two_like k m both_false = λ i. two None None (plain n parts goal other scope locals alike t t' (F.Not a) (F.Not a') one_like (same_not a a' says) i) (plain n parts goal other scope locals alike u u' a a' two_like says i)
  not_e_alike a a' t u t' u' says one_like two_like k m both_atom = refl
  not_e_alike a a' t u t' u' says one_like two_like k m (both_not e) = refl
  not_e_alike a a' t u t' u' says one_like two_like k m (both_and e f) = refl
  not_e_alike a a' t u t' u' says one_like two_like k m (both_or e f) = refl
  not_e_alike a a' t u t' u' says one_like two_like k m (both_implies e f) = refl
  not_e_alike a a' t u t' u' says one_like two_like k m both_all = refl
  not_e_alike a a' t u t' u' says one_like two_like k m both_exists = refl
