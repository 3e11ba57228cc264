-- What stands in a list.
use Rattle.std.proofs.Common.{◌≡◌, ◌⊎◌, inl, inr, ℕ, zero, suc, Bool, true, false, cond, List, [], ◌∷◌, ◌++◌, map, filter, zip, Some, refl, ap, sym, subst, ◌∙◌}
use Rattle.std.proofs.lemmas.Bool.{eqb-true, eq-eqb, or_left, or_right, or_cases}
use Rattle.std.specs.Prelude.{◌==◌, slice_get, flat_map}
use Rattle.std.specs.List.{list_any, AllByRecursion}
use Rattle.text_words.specs.Members.{has}

-- it stands in the list
abbrev pub In : {X : Type 0} → X → List X → Type 0
In x [] = ⊥
In x (y ∷ ys) = (y ≡ x) ⊎ In x ys

module _ {X : Type 0} where
  pub in_front : (xs ys : List X) (x : X) → In x xs → In x (xs ++ ys)
  in_front [] ys x is = absurd is
  in_front (y ∷ xs) ys x (inl same) = inl same
  in_front (y ∷ xs) ys x (inr rest) = inr (in_front xs ys x rest)

  pub in_back : (xs ys : List X) (x : X) → In x ys → In x (xs ++ ys)
  in_back [] ys x is = is
  in_back (y ∷ xs) ys x is = inr (in_back xs ys x is)

  pub in_either : (xs ys : List X) (x : X) → In x (xs ++ ys) → In x xs ⊎ In x ys
  in_either [] ys x is = inr is
  in_either (y ∷ xs) ys x (inl same) = inl (inl same)
  in_either (y ∷ xs) ys x (inr rest) = go (in_either xs ys x rest)
    where
      go : In x xs ⊎ In x ys → In x (y ∷ xs) ⊎ In x ys
      go (inl a) = inl (inr a)
      go (inr b) = inr b

  pub at_in : (xs : List X) (i : ℕ) (x : X) → slice_get xs i ≡ Some x → In x xs
  at_in [] i x at = absurd (cc)
  at_in (y ∷ xs) zero x at = let same : y ≡ x = cc in inl same
  at_in (y ∷ xs) (suc i) x at = inr (at_in xs i x at)

  pub in_at : (xs : List X) (x : X) → In x xs → (i : ℕ) × (slice_get xs i ≡ Some x)
  in_at [] x is = absurd is
  in_at (y ∷ xs) x (inl same) = (zero, ap (λ z. Some z) same)
  in_at (y ∷ xs) x (inr rest) = let r = in_at xs x rest in (suc r.0, r.1)

  pub any_in : (test : X → Bool) (xs : List X) → list_any test xs ≡ true → (x : X) × In x xs × (test x ≡ true)
  any_in test [] is = absurd (cc)
  any_in test (y ∷ xs) is = go (or_cases (test y) (list_any test xs) is) (any_in test xs)
    where
      go : (test y ≡ true) ⊎ (list_any test xs ≡ true) → (list_any test xs ≡ true → (x : X) × In x xs × (test x ≡ true))
          → (x : X) × In x (y ∷ xs) × (test x ≡ true)
      go (inl here) rest = (y, inl refl, here)
      go (inr there) rest = let r = rest there in (r.0, inr r.1, r.2)

  pub in_any : (test : X → Bool) (xs : List X) (x : X) → In x xs → test x ≡ true → list_any test xs ≡ true
  in_any test [] x is so = absurd is
  in_any test (y ∷ xs) x (inl same) so = or_left (test y) (list_any test xs) (ap test same ∙ so)
  in_any test (y ∷ xs) x (inr rest) so = or_right (test y) (list_any test xs) (in_any test xs x rest so)

  pub each_in : (P : X → Type 0) (xs : List X) → ((x : X) → In x xs → P x) → AllByRecursion P xs
  each_in P [] all = tt
  each_in P (x ∷ xs) all = (all x (inl refl), each_in P xs (λ y is. all y (inr is)))

  pub in_filter : (test : X → Bool) (xs : List X) (x : X) → In x (filter test xs) → In x xs × (test x ≡ true)
  in_filter test [] x is = absurd is
  in_filter test (y ∷ xs) x is = go (test y) refl is (in_filter test xs x)
    where
      go : (b : Bool) → test y ≡ b → In x (cond b (y ∷ filter test xs) (filter test xs)) → (In x (filter test xs) → In x xs × (test x ≡ true))
          → In x (y ∷ xs) × (test x ≡ true)
      go true so (inl same) rest = (inl same, sym (ap test same) ∙ so)
      go true so (inr there) rest = let r = rest there in (inr r.0, r.1)
      go false so there rest = let r = rest there in (inr r.0, r.1)

  pub filter_in : (test : X → Bool) (xs : List X) (x : X) → In x xs → test x ≡ true → In x (filter test xs)
  filter_in test [] x is so = absurd is
  filter_in test (y ∷ xs) x (inl same) so = go (test y) (ap test same ∙ so)
    where
      go : (b : Bool) → b ≡ true → In x (cond b (y ∷ filter test xs) (filter test xs))
      go true e = inl same
      go false e = absurd (cc)
  filter_in test (y ∷ xs) x (inr rest) so = go (test y) (filter_in test xs x rest so)
    where
      go : (b : Bool) → In x (filter test xs) → In x (cond b (y ∷ filter test xs) (filter test xs))
      go true there = inr there
      go false there = there

module _ {X Y : Type 0} where
  pub in_flat : (of : X → List Y) (xs : List X) (y : Y) → In y (flat_map of xs) → (x : X) × In x xs × In y (of x)
  in_flat of [] y is = absurd is
  in_flat of (x ∷ xs) y is = go (in_either (of x) (flat_map of xs) y is) (in_flat of xs y)
    where
      go : In y (of x) ⊎ In y (flat_map of xs) → (In y (flat_map of xs) → (z : X) × In z xs × In y (of z)) → (z : X) × In z (x ∷ xs) × In y (of z)
      go (inl here) rest = (x, inl refl, here)
      go (inr there) rest = let r = rest there in (r.0, inr r.1, r.2)

  pub flat_in : (of : X → List Y) (xs : List X) (x : X) (y : Y) → In x xs → In y (of x) → In y (flat_map of xs)
  flat_in of [] x y is so = absurd is
  flat_in of (z ∷ xs) x y (inl same) so = in_front (of z) (flat_map of xs) y (subst (λ w. In y (of w)) (sym same) so)
  flat_in of (z ∷ xs) x y (inr rest) so = in_back (of z) (flat_map of xs) y (flat_in of xs x y rest so)

  pub in_map : (f : X → Y) (xs : List X) (y : Y) → In y (map f xs) → (x : X) × In x xs × (f x ≡ y)
  in_map f [] y is = absurd is
  in_map f (x ∷ xs) y (inl same) = (x, inl refl, same)
  in_map f (x ∷ xs) y (inr rest) = let r = in_map f xs y rest in (r.0, inr r.1, r.2)

  pub map_in : (f : X → Y) (xs : List X) (x : X) → In x xs → In (f x) (map f xs)
  map_in f [] x is = absurd is
  map_in f (y ∷ xs) x (inl same) = inl (ap f same)
  map_in f (y ∷ xs) x (inr rest) = inr (map_in f xs x rest)

  pub in_zip : (xs : List X) (ys : List Y) (pair : X × Y) → In pair (zip xs ys)
      → (i : ℕ) × (slice_get xs i ≡ Some pair.0) × (slice_get ys i ≡ Some pair.1)
  in_zip [] ys pair is = absurd is
  in_zip (x ∷ xs) [] pair is = absurd is
  in_zip (x ∷ xs) (y ∷ ys) pair (inl same) = (zero, ap (λ (p : X × Y). Some p.0) same, ap (λ (p : X × Y). Some p.1) same)
  in_zip (x ∷ xs) (y ∷ ys) pair (inr rest) = let r = in_zip xs ys pair rest in (suc r.0, r.1, r.2)

  pub zip_in : (xs : List X) (ys : List Y) (i : ℕ) (x : X) (y : Y) → slice_get xs i ≡ Some x → slice_get ys i ≡ Some y → In (x, y) (zip xs ys)
  zip_in [] ys i x y at on = absurd (cc)
  zip_in (z ∷ xs) [] i x y at on = absurd (cc)
  zip_in (z ∷ xs) (w ∷ ys) zero x y at on =
      let first : z ≡ x = cc in let second : w ≡ y = cc in
      inl (ap (λ (v : X). (v, w)) first ∙ ap (λ (v : Y). (x, v)) second)
  zip_in (z ∷ xs) (w ∷ ys) (suc i) x y at on = inr (zip_in xs ys i x y at on)

pub has_in : (xs : List ℕ) (e : ℕ) → has xs e ≡ true → In e xs
has_in xs e is =
    let r = any_in (λ q. e == q) xs is in
    subst (λ q. In q xs) (sym (eqb-true e r.0 r.2)) r.1

pub in_has : (xs : List ℕ) (e : ℕ) → In e xs → has xs e ≡ true
in_has xs e is = in_any (λ q. e == q) xs e is (eq-eqb e e refl)
