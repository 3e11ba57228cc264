-- Sums over what the callers know, when one of them changes.
use Rattle.std.proofs.Common.{◌≡◌, ◌≢◌, ℕ, zero, suc, ◌+◌, ◌≤◌, List, [], ◌∷◌, ◌++◌, set, sym, refl, ap, ◌∙◌, subst, ⊎_elim, sum_by, arith}
use mathlib.Core.Option.{some, some-injective, some-ne-none}
use lib.ListN.{get_elem?}
use Rattle.std.proofs.lemmas.List.Sums.{sum_by-cons}
use Rattle.crossbeam_deque.proofs.Lists.{at_set, at_snoc, set_else}
use Rattle.task_round.specs.declared.hand.Hand.{Hand}
use Rattle.task_round.specs.Sharing.{hand, Fits}

module _ (f : Hand → ℕ) where
  -- one caller's change changes the sum by as much
  pub total_set : (hands : List Hand) (port : ℕ) (v w : Hand) → get_elem? hands port ≡ some v
      → sum_by f (set hands port w) + f v ≡ sum_by f hands + f w
  total_set [] port v w at = absurd (some-ne-none v (sym at))
  total_set (x ∷ xs) zero v w at =
      let same : f x ≡ f v = ap f (some-injective x v at) in let old = sum_by-cons f x xs in let new = sum_by-cons f w xs in
      omega arith
  total_set (x ∷ xs) (suc i) v w at =
      let old = sum_by-cons f x xs in let new = sum_by-cons f x (set xs i w) in let rest = total_set xs i v w at in
      omega arith

  pub one_within : (hands : List Hand) (port : ℕ) (v : Hand) → get_elem? hands port ≡ some v → f v ≤ sum_by f hands
  one_within [] port v at = absurd (some-ne-none v (sym at))
  one_within (x ∷ xs) zero v at = let same : f x ≡ f v = ap f (some-injective x v at) in let old = sum_by-cons f x xs in omega arith
  one_within (x ∷ xs) (suc i) v at = let old = sum_by-cons f x xs in let rest = one_within xs i v at in omega arith

  -- what none of them adds to is nothing
  none_left : (hands : List Hand) → ((j : ℕ) (u : Hand) → get_elem? hands j ≡ some u → f u ≡ 0) → sum_by f hands ≡ 0
  none_left [] none = refl
  none_left (x ∷ xs) none =
      let old = sum_by-cons f x xs in let first = none 0 x refl in let rest = none_left xs (λ j u e. none (suc j) u e) in
      omega arith

  -- where the others add nothing, the sum is one caller's
  pub lone : (hands : List Hand) (port : ℕ) (v : Hand) → get_elem? hands port ≡ some v
      → ((j : ℕ) (u : Hand) → j ≢ port → get_elem? hands j ≡ some u → f u ≡ 0) → sum_by f hands ≡ f v
  lone [] port v at others = absurd (some-ne-none v (sym at))
  lone (x ∷ xs) zero v at others =
      let same : f x ≡ f v = ap f (some-injective x v at) in let old = sum_by-cons f x xs in
      let rest = none_left xs (λ j u e. others (suc j) u (λ s. omega arith) e) in
      omega arith
  lone (x ∷ xs) (suc i) v at others =
      let old = sum_by-cons f x xs in let first = others 0 x (λ s. omega arith) refl in
      let rest = lone xs i v at (λ j u n e. others (suc j) u (λ s. n (omega arith)) e) in
      omega arith

-- where one caller has all parts, the others have none
pub others_idle : (hands : List Hand) (port : ℕ) (v : Hand) → get_elem? hands port ≡ some v → sum_by (λ h. h.parts) hands ≡ v.parts
    → (j : ℕ) (u : Hand) → j ≢ port → get_elem? hands j ≡ some u → u.parts ≡ 0
others_idle hands port v at all j u n e =
    let parts : Hand → ℕ = λ h. h.parts in let spent = hand 0 0 [] in
    let changed = total_set parts hands port v spent at in
    let there = one_within parts (set hands port spent) j u (set_else hands port j spent n ∙ e) in
    omega arith

-- what fits of each caller still does after one's change
pub fits_set : (next : ℕ) (hands : List Hand) (port : ℕ) (w : Hand) → Fits next w
    → ((j : ℕ) (u : Hand) → j ≢ port → get_elem? hands j ≡ some u → Fits next u)
    → (j : ℕ) (u : Hand) → get_elem? (set hands port w) j ≡ some u → Fits next u
fits_set next hands port w mine others j u e =
    ⊎_elim (λ (t : (j ≡ port) × (w ≡ u)). subst (Fits next) t.1 mine) (λ (t : (j ≢ port) × (get_elem? hands j ≡ some u)). others j u t.0 t.1)
    (at_set hands port j w u e)

pub fits_push : (count : ℕ) (hands : List Hand) (w : Hand) → Fits count w
    → ((j : ℕ) (u : Hand) → get_elem? hands j ≡ some u → Fits count u)
    → (j : ℕ) (u : Hand) → get_elem? (hands ++ w ∷ []) j ≡ some u → Fits count u
fits_push count hands w mine others j u e = ⊎_elim (λ t. others j u t) (λ (t : w ≡ u). subst (Fits count) t mine) (at_snoc hands w u j e)
