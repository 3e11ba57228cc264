-- Lists put together, taken apart, turned round and searched, and what holds of each element.
use Rattle.std.proofs.Common.{List, [], ◌∷◌, ◌++◌, ◌≡◌, ◌+◌, length, refl, ap, arith, ℕ, ◌-◌, ◌≤◌, take, drop, reverse, sym, subst, ◌∙◌, Bool, true, false, cond, Some, None, get_or, zero, suc, ◌<◌, add-one, sum, bytes_eq, filter, map, ap₂}
use Rattle.std.specs.List.{AllByRecursion, zip, position, position_or_len}
use Rattle.std.proofs.lemmas.List.{length-drop, length-reverse, take-append-drop, reverse-append}
use Rattle.std.proofs.Math.Seq.{take-append_seam, drop-cons}
use Rattle.std.proofs.lemmas.Bool.{ltb-false, both_ways, false_from_ne_true, eq-eqb, ne_eqb}
use Rattle.std.proofs.lemmas.List.Folds.{find_at}
use Rattle.std.proofs.lemmas.Option.{slice_get_past}
use Rattle.std.specs.Prelude.{◌==◌, slice_get, nat_lt, find}
use Rattle.std.specs.Option.{option_and_then}
use Rattle.std.proofs.lemmas.List.Sums.{sum_by-cons}
use Rattle.std.proofs.lemmas.Slice.Eq.{bytes_eq-Decides}

-- of both lists, so of their join
pub each-both : {X : Type 0} (P : X → Type 0) (xs ys : List X) → AllByRecursion P xs → AllByRecursion P ys → AllByRecursion P (xs ++ ys)
each-both P [] ys h k = k
each-both P (x ∷ xs) ys h k = (h.0, each-both P xs ys h.1 k)

-- of the join, so of both lists
pub each-part : {X : Type 0} (P : X → Type 0) (xs ys : List X) → AllByRecursion P (xs ++ ys) → AllByRecursion P xs × AllByRecursion P ys
each-part P [] ys h = (tt, h)
each-part P (x ∷ xs) ys h = ((h.0, (each-part P xs ys h.1).0), (each-part P xs ys h.1).1)

-- of each element what follows from what held of it
pub each-so : {X : Type 0} (P Q : X → Type 0) → ((x : X) → P x → Q x) → (xs : List X) → AllByRecursion P xs → AllByRecursion Q xs
each-so P Q f [] h = tt
each-so P Q f (x ∷ xs) h = (f x h.0, each-so P Q f xs h.1)

-- pairs of two joins are the joined pairs
pub zip_append : {A B : Type 0} (ks ls : List A) (vs ws : List B) → length ks ≡ length vs → zip (ks ++ ls) (vs ++ ws) ≡ zip ks vs ++ zip ls ws
zip_append [] ls [] ws e = refl
zip_append [] ls (y ∷ vs) ws e = absurd (omega arith)
zip_append (x ∷ ks) ls [] ws e = absurd (omega arith)
zip_append (x ∷ ks) ls (y ∷ vs) ws e = ap (λ ps. (x, y) ∷ ps) (zip_append ks ls vs ws (omega arith))

-- the front of a list turned round is its back turned round
pub take_reverse : {A : Type 0} (xs : List A) (b : ℕ) → b ≤ length xs → take b (reverse xs) ≡ reverse (drop (length xs - b) xs)
take_reverse xs b le =
    let m = length xs - b in
    let last = reverse (drop m xs) in
    let long : length last ≡ b = length-reverse (drop m xs) ∙ length-drop m xs ∙ omega arith in
    ap (λ ys. take b (reverse ys)) (sym (take-append-drop m xs))
    ∙ ap (take b) (reverse-append (take m xs) (drop m xs))
    ∙ subst (λ n. take n (last ++ reverse (take m xs)) ≡ last) long (take-append_seam last (reverse (take m xs)))

-- what stands at the first place that passes is what is found
pub position_found : {A : Type 0} (p : A → Bool) (xs : List A) → option_and_then (slice_get xs) (position p xs) ≡ find p xs
position_found p xs = go (nat_lt (position_or_len p xs) (length xs)) refl
  where
    go : (b : Bool) → nat_lt (position_or_len p xs) (length xs) ≡ b
        → option_and_then (slice_get xs) (cond b (Some (position_or_len p xs)) None) ≡ find p xs
    go true e = sym (find_at p xs)
    go false e = sym (find_at p xs ∙ slice_get_past xs (position_or_len p xs) (ltb-false (position_or_len p xs) (length xs) e))

-- a list that has an item, taken apart at its first
pub first_and_rest : {X : Type 0} (xs : List X) (x : X) → 1 ≤ length xs → x ≡ get_or xs 0 x → xs ≡ x ∷ drop 1 xs
first_and_rest [] x some is = absurd (omega arith)
first_and_rest (y ∷ xs) x some is = ap (λ z. z ∷ xs) (sym is)

-- the rest of a list from a place on begins with what stands there
pub rest_at : {A : Type 0} (xs : List A) (i : ℕ) (x : A) → i < length xs → x ≡ get_or xs i x → drop i xs ≡ x ∷ drop (i + 1) xs
rest_at xs i x lt is = drop-cons xs i x lt ∙ ap (λ y. y ∷ drop (suc i) xs) (sym is) ∙ ap (λ n. x ∷ drop n xs) (sym (add-one i))

-- what is found passes the test
pub found_passes : {A : Type 0} (test : A → Bool) (xs : List A) (x : A) → find test xs ≡ Some x → test x ≡ true
found_passes test [] x at = absurd (cc)
found_passes test (y ∷ xs) x at = go (test y) refl at (found_passes test xs x)
  where
    go : (b : Bool) → test y ≡ b → cond b (Some y) (find test xs) ≡ Some x → (find test xs ≡ Some x → test x ≡ true) → test x ≡ true
    go true is at rest = let same : y ≡ x = cc in ap test (sym same) ∙ is
    go false is at rest = rest at

-- the first adds to the sum of the rest
pub sum_cons : (n : ℕ) (ns : List ℕ) → sum (n ∷ ns) ≡ n + sum ns
sum_cons n ns = sum_by-cons (λ (x : ℕ). x) n ns

-- names that are the same are equally long
pub same_length : (x y : List ℕ) → bytes_eq x y ≡ true → length y ≡ length x
same_length x y e = ap length (sym ((bytes_eq-Decides x y).0 e))

-- the test of names is the same the other way round
pub unlike_turned : (x y : List ℕ) → bytes_eq x y ≡ false → bytes_eq y x ≡ false
unlike_turned x y ne = false_from_ne_true (bytes_eq y x) (λ same. both_ways (bytes_eq x y) ne ((bytes_eq-Decides x y).1 (sym ((bytes_eq-Decides y x).0 same))))

-- of each element what holds of what stands at each place
pub each-placed : {X : Type 0} (P : X → Type 0) (xs : List X)
    → ((i : ℕ) (x : X) → slice_get xs i ≡ Some x → P x) → AllByRecursion P xs
each-placed P [] at = tt
each-placed P (x ∷ xs) at = (at zero x refl, each-placed P xs (λ i y there. at (suc i) y there))

-- of each that passes a test
pub each-passing : {X : Type 0} (P : X → Type 0) (test : X → Bool) (xs : List X)
    → AllByRecursion P xs → AllByRecursion P (filter test xs)
each-passing P test [] all = tt
each-passing P test (x ∷ xs) all = go (test x) (each-passing P test xs all.1)
  where
    go : (b : Bool) → AllByRecursion P (filter test xs)
        → AllByRecursion P (cond b (x ∷ filter test xs) (filter test xs))
    go true rest = (all.0, rest)
    go false rest = rest

-- what makes the same of each element makes the same list
pub map_alike : {X Y : Type 0} (f g : X → Y) → ((x : X) → f x ≡ g x) → (xs : List X)
    → map f xs ≡ map g xs
map_alike f g same [] = refl
map_alike f g same (x ∷ xs) = ap₂ (λ y ys. y ∷ ys) (same x) (map_alike f g same xs)

-- so is the test of numbers
pub differ_turned : (m n : ℕ) → (m == n) ≡ false → (n == m) ≡ false
differ_turned m n differ = ne_eqb n m (λ e. both_ways (m == n) differ (eq-eqb m n (sym e)))

-- the parts of nothing are nothing
pub no_parts : {X : Type 0} (xs ys : List X) → [] ≡ xs ++ ys → (xs ≡ []) × (ys ≡ [])
no_parts [] ys is = (refl, sym is)
no_parts (x ∷ xs) ys is = absurd (cc)
