-- A list in a total order that tells its elements apart is the only one of its elements.
use Rattle.std.proofs.Common.{◌≡◌, ℕ, ◌+◌, ◌<◌, false, List, [], ◌∷◌, refl, sym, subst, ap, ◌∙◌, arith, if◌then◌else◌, suc, zero, get_or}
use Rattle.std.specs.declared.cmp.Ordering.{Ordering}
use Rattle.std.specs.declared.cmp.Ordering.TheVariants.{Less, Equal, Greater}
use Rattle.std.specs.Cmp.{IsTotalOrder}
use Rattle.std.specs.List.{AllByRecursion, sum_by}
use Rattle.std.specs.List.Sorted.{IsSorted}
use Rattle.std.specs.Ordering.{is_lt, is_eq, ordering_reverse}
use Rattle.std.proofs.lemmas.Cmp.{tied_itself}
use Rattle.std.proofs.lemmas.List.Sums.{sum_by-cons}

module _ {X : Type 0} (R : X → X → Ordering) (o : IsTotalOrder R) (exact : (x y : X) → R x y ≡ Equal → x ≡ y) where
  -- y does not come before x
  abbrev pub NotBefore : X → X → Type 0
  NotBefore x y = is_lt (R y x) ≡ false

  abbrev pub Rises : List X → Type 0
  Rises [] = Unit {0}
  Rises (x ∷ xs) = AllByRecursion (NotBefore x) xs × Rises xs

  not_before : (x y z : X) → NotBefore x y → NotBefore y z → NotBefore x z
  not_before x y z h k = go (R z x) refl (R x y) refl where
    go : (a : Ordering) → R z x ≡ a → (b : Ordering) → R x y ≡ b → is_lt a ≡ false
    go Less ea Less eb = absurd (cc (ap is_lt (o.trans z x y ea eb)))
    go Less ea Equal eb = absurd (cc (o.antisymm x z, o.antisymm z y, o.congr x y z eb, ap is_lt ea))
    go Less ea Greater eb = absurd (cc (o.antisymm y x))
    go Equal ea b eb = refl
    go Greater ea b eb = refl

  not_before_itself : (x : X) → NotBefore x x
  not_before_itself x = ap is_lt (tied_itself o x)

  tied : (x y : X) → NotBefore x y → NotBefore y x → x ≡ y
  tied x y h k = go (R x y) refl where
    go : (a : Ordering) → R x y ≡ a → x ≡ y
    go Less e = absurd (cc (ap is_lt e))
    go Equal e = exact x y e
    go Greater e = absurd (cc (o.antisymm y x, ap ordering_reverse e))

  -- 1 at what is x
  mark : X → X → ℕ
  mark x y = if is_eq (R x y) then 1 else 0

  mark_other : (x y : X) (a : Ordering) → R x y ≡ a → is_eq a ≡ false → mark x y ≡ 0
  unfolding mark
  mark_other x y a e f = ap (λ b. if is_eq b then 1 else 0) e ∙ ap (λ b. if b then 1 else 0) f

  mark_itself : (x : X) → mark x x ≡ 1
  unfolding mark
  mark_itself x = ap (λ b. if is_eq b then 1 else 0) (tied_itself o x)

  -- what is counted among them has what all of them have
  member : (P : X → Type 0) (x : X) (ys : List X) → AllByRecursion P ys → 0 < sum_by (mark x) ys → P x
  member P x [] all h = absurd (omega arith)
  member P x (y ∷ ys) all h = go (R x y) refl (member P x ys all.1) where
    go : (a : Ordering) → R x y ≡ a → (0 < sum_by (mark x) ys → P x) → P x
    go Less e more = more (omega (arith, sum_by-cons (mark x) y ys, mark_other x y Less e refl))
    go Equal e more = subst P (sym (exact x y e)) all.0
    go Greater e more = more (omega (arith, sum_by-cons (mark x) y ys, mark_other x y Greater e refl))

  pub one : (xs ys : List X) → Rises xs → Rises ys → ((f : X → ℕ) → sum_by f ys ≡ sum_by f xs) → ys ≡ xs
  one [] [] rx ry h = refl
  one [] (y ∷ ys) rx ry h = absurd (omega (arith, h (λ z. 1), sum_by-cons (λ (z : X). 1) y ys))
  one (x ∷ xs) [] rx ry h = absurd (omega (arith, h (λ z. 1), sum_by-cons (λ (z : X). 1) x xs))
  one (x ∷ xs) (y ∷ ys) rx ry h =
      let below : NotBefore x y = member (NotBefore x) y (x ∷ xs) (not_before_itself x, rx.0)
      (omega (arith, h (mark y), sum_by-cons (mark y) y ys, mark_itself y)) in
      let above : NotBefore y x = member (NotBefore y) x (y ∷ ys) (not_before_itself y, ry.0)
      (omega (arith, h (mark x), sum_by-cons (mark x) x xs, mark_itself x)) in
      let e : x ≡ y = tied x y below above in
      let rest : ys ≡ xs = one xs ys rx.1 ry.1 (λ f. omega (arith, h f, sum_by-cons f x xs, sum_by-cons f y ys, ap f e)) in
      cc

  pub All-later : (x y : X) (zs : List X) → NotBefore x y → AllByRecursion (NotBefore y) zs → AllByRecursion (NotBefore x) zs
  All-later x y [] h all = tt
  All-later x y (z ∷ zs) h all = (not_before x y z h all.0, All-later x y zs h all.1)

  pub rises : (xs : List X) → IsSorted R xs → Rises xs
  rises [] h = tt
  rises (x ∷ []) h = (tt, tt)
  rises (x ∷ y ∷ ys) h =
      let first : NotBefore x y = h 0 y (omega arith) (omega arith) in
      let rest = rises (y ∷ ys) (λ k d low high.
      let e : suc k + 1 ≡ suc (k + 1) = omega arith in
      subst (λ m. is_lt (R (get_or (x ∷ y ∷ ys) m d) (get_or (y ∷ ys) k d)) ≡ false) e
      (h (suc k) d (omega arith) (omega arith))) in
      ((first, All-later x y ys first rest.0), rest)

  pub sorted : (xs : List X) → Rises xs → IsSorted R xs
  sorted [] r k d low high = absurd (omega arith)
  sorted (x ∷ []) r k d low high = absurd (omega arith)
  sorted (x ∷ y ∷ ys) r zero d low high = r.0.0
  sorted (x ∷ y ∷ ys) r (suc k) d low high =
      let e : suc (k + 1) ≡ suc k + 1 = omega arith in
      subst (λ m. is_lt (R (get_or (x ∷ y ∷ ys) m d) (get_or (y ∷ ys) k d)) ≡ false) e
      (sorted (y ∷ ys) r.1 k d (omega arith) (omega arith))
