-- A union where the first list is taken apart at one of its pairs.
use Rattle.std.proofs.Common.{◌≡◌, List, [], ◌∷◌, ◌++◌, length, arith, refl, sym, ◌∙◌, ap, append_assoc}
use Rattle.std.specs.Cmp.{IsTotalOrder}
use Rattle.std.specs.declared.cmp.Ordering.{Ordering}
use Rattle.std.specs.declared.cmp.Ordering.TheVariants.{Less, Greater}
use Rattle.std.specs.Ordering.{is_lt, is_gt, ordering_reverse}
use Rattle.shared_map.specs.Pairs.{Each}
use Rattle.shared_map.specs.Cuts.{before, behind, at_key}
use Rattle.shared_map.specs.Changes.{united}
use Rattle.shared_map.proofs.KnownSorted.{is_less, is_greater}
use Rattle.shared_map.proofs.Lists.{filter_swap, filter_narrower}

module _ {K V : Type 0} {cmp : K → K → Ordering} (total : IsTotalOrder cmp) where
  -- what lies before the smaller key lies before the greater, and behind likewise
  module _ (y x : K) (rise : cmp y x ≡ Less) (zs : List (K × V)) where
    before_twice : before (at_key cmp y) (before (at_key cmp x) zs) ≡ before (at_key cmp y) zs
    before_twice =
        filter_narrower (λ p. is_lt (cmp p.0 y)) (λ p. is_lt (cmp p.0 x))
        (λ p less. ap is_lt (total.trans p.0 y x (is_less (cmp p.0 y) less) rise)) zs

    behind_twice : behind (at_key cmp x) (behind (at_key cmp y) zs) ≡ behind (at_key cmp x) zs
    behind_twice =
        filter_narrower (λ p. is_gt (cmp p.0 x)) (λ p. is_gt (cmp p.0 y))
        (λ p greater. ap is_gt (behind_of p.0 (is_greater (cmp p.0 x) greater))) zs
      where
        behind_of : (z : K) → cmp z x ≡ Greater → cmp z y ≡ Greater
        behind_of z greater =
            total.antisymm z y ∙ ap ordering_reverse (total.trans y x z rise (total.antisymm x z ∙ ap ordering_reverse greater))

  pub united_fork : (l : List (K × V)) (x : K × V) (r ys : List (K × V)) → Each (λ p. cmp p.0 x.0 ≡ Less) l
      → united cmp (l ++ x ∷ r) ys ≡ united cmp l (before (at_key cmp x.0) ys) ++ x ∷ united cmp r (behind (at_key cmp x.0) ys)
  united_fork [] x r ys smaller = refl
  united_fork (y ∷ l) x r ys smaller =
      ap (λ rest. before (at_key cmp y.0) ys ++ y ∷ rest) (united_fork l x r (behind (at_key cmp y.0) ys) smaller.1)
      ∙ ap (λ cut. before (at_key cmp y.0) ys ++ y ∷ (united cmp l cut ++ x ∷ united cmp r (behind (at_key cmp x.0) (behind (at_key cmp y.0) ys))))
      (filter_swap (λ p. is_lt (cmp p.0 x.0)) (λ p. is_gt (cmp p.0 y.0)) ys)
      ∙ ap (λ rest. before (at_key cmp y.0) ys ++ y ∷ (united cmp l (behind (at_key cmp y.0) (before (at_key cmp x.0) ys)) ++ x ∷ united cmp r rest))
      (behind_twice y.0 x.0 smaller.0 ys)
      ∙ ap (λ cut. cut ++ y ∷ (united cmp l (behind (at_key cmp y.0) (before (at_key cmp x.0) ys)) ++ x ∷ united cmp r (behind (at_key cmp x.0) ys)))
      (sym (before_twice y.0 x.0 smaller.0 ys))
      ∙ sym (append_assoc (before (at_key cmp y.0) (before (at_key cmp x.0) ys)) (y ∷ united cmp l (behind (at_key cmp y.0) (before (at_key cmp x.0) ys))) (x ∷ united cmp r (behind (at_key cmp x.0) ys)))

united_nil : {K V : Type 0} (cmp : K → K → Ordering) (xs : List (K × V)) → xs ≡ united cmp xs []
united_nil cmp [] = refl
united_nil cmp (x ∷ xs) = ap (λ l. x ∷ l) (united_nil cmp xs)

-- a union with nothing
pub united_nothing : {K V : Type 0} (cmp : K → K → Ordering) (xs ys : List (K × V)) → length ys ≡ 0 → xs ≡ united cmp xs ys
united_nothing cmp xs [] none = united_nil cmp xs
united_nothing cmp xs (y ∷ ys) none = absurd (omega arith)
