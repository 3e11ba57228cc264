-- Keys, entry by entry.
use Rattle.std.proofs.Common.{◌≡◌, ◌≢◌, ℕ, zero, suc, ◌+◌, ◌<◌, Bool, true, false, List, [], ◌∷◌, ◌++◌, length, map, take, drop, get_or, Some, refl, ap, ◌∙◌, arith}
use Rattle.std.proofs.lemmas.List.{take_more}
use Rattle.std.specs.Prelude.{find, ◌&&◌}
use Rattle.std.proofs.Math.Bool.{and-false}
use Rattle.exec_rules.specs.declared.key.Last.{Last}
use Rattle.exec_rules.specs.Keys.{same_last, same_lasts}

find_one : {X : Type 0} (f : X → Bool) (x : X) (xs : List X) → f x ≡ false → find f xs ≡ find f (x ∷ xs)
find_one f x xs e = cc

find_first : {X : Type 0} (f : X → Bool) (x : X) (xs : List X) → f x ≡ true → find f (x ∷ xs) ≡ Some x
find_first f x xs e = cc

past : {X : Type 0} (f : X → Bool) (xs : List X) (i : ℕ) (d : X) → i < length xs → f (get_or xs i d) ≡ false
    → find f (drop (suc i) xs) ≡ find f (drop i xs)
past f [] i d lt not_here = absurd (omega arith)
past f (x ∷ xs) zero d lt not_here = find_one f x xs not_here
past f (x ∷ xs) (suc i) d lt not_here = past f xs i d (omega arith) not_here

-- what is not found at a place is found from the next one on
pub find_past : {X : Type 0} (f : X → Bool) (xs : List X) (i : ℕ) (d : X) → i < length xs → f (get_or xs i d) ≡ false
    → find f (drop (i + 1) xs) ≡ find f (drop i xs)
find_past f xs i d lt not_here =
    let next : i + 1 ≡ suc i = omega arith in ap (λ k. find f (drop k xs)) next ∙ past f xs i d lt not_here

-- what is found there is told
pub find_here : {X : Type 0} (f : X → Bool) (xs : List X) (i : ℕ) (d : X) → i < length xs → f (get_or xs i d) ≡ true
    → find f (drop i xs) ≡ Some (get_or xs i d)
find_here f [] i d lt here = absurd (omega arith)
find_here f (x ∷ xs) zero d lt here = find_first f x xs here
find_here f (x ∷ xs) (suc i) d lt here = find_here f xs i d (omega arith) here

map_append : {X Y : Type 0} (f : X → Y) (xs ys : List X) → map f (xs ++ ys) ≡ map f xs ++ map f ys
map_append f [] ys = refl
map_append f (x ∷ xs) ys = ap (λ zs. f x ∷ zs) (map_append f xs ys)

-- one more of a list
pub map_more : {X Y : Type 0} (f : X → Y) (xs : List X) (i : ℕ) (d : X) → i < length xs
    → map f (take (i + 1) xs) ≡ map f (take i xs) ++ f (get_or xs i d) ∷ []
map_more f xs i d lt = ap (map f) (take_more xs i d lt) ∙ map_append f (take i xs) (get_or xs i d ∷ [])

step : (xs ys : List Last) (i : ℕ) (d e : Last) → i < length xs → length xs ≡ length ys
    → same_lasts (drop i xs) (drop i ys)
    ≡ (same_last (get_or xs i d) (get_or ys i e) && same_lasts (drop (suc i) xs) (drop (suc i) ys))
step [] ys i d e lt same = absurd (omega arith)
step (x ∷ xs) [] i d e lt same = absurd (omega arith)
step (x ∷ xs) (y ∷ ys) zero d e lt same = refl
step (x ∷ xs) (y ∷ ys) (suc i) d e lt same = step xs ys i d e (omega arith) (omega arith)

pub lasts_step : (xs ys : List Last) (i : ℕ) (d e : Last) → i < length xs → length xs ≡ length ys
    → same_lasts (drop i xs) (drop i ys)
    ≡ (same_last (get_or xs i d) (get_or ys i e) && same_lasts (drop (i + 1) xs) (drop (i + 1) ys))
lasts_step xs ys i d e lt same =
    let next : suc i ≡ i + 1 = omega arith in
    step xs ys i d e lt same
    ∙ ap (λ k. same_last (get_or xs i d) (get_or ys i e) && same_lasts (drop k xs) (drop k ys)) next

pub lasts_over : (xs ys : List Last) (i : ℕ) → i ≡ length xs → length xs ≡ length ys → same_lasts (drop i xs) (drop i ys) ≡ true
lasts_over [] [] i over same = ap (λ j. same_lasts (drop j []) (drop j [])) over
lasts_over [] (y ∷ ys) i over same = absurd (omega arith)
lasts_over (x ∷ xs) [] i over same = absurd (omega arith)
lasts_over (x ∷ xs) (y ∷ ys) zero over same = absurd (omega arith)
lasts_over (x ∷ xs) (y ∷ ys) (suc i) over same = lasts_over xs ys i (omega arith) (omega arith)

pub lasts_lengths : (xs ys : List Last) → length xs ≢ length ys → same_lasts xs ys ≡ false
lasts_lengths [] [] differ = absurd (differ refl)
lasts_lengths [] (y ∷ ys) differ = refl
lasts_lengths (x ∷ xs) [] differ = refl
lasts_lengths (x ∷ xs) (y ∷ ys) differ =
    ap (λ b. same_last x y && b) (lasts_lengths xs ys (λ same. differ (omega (arith, same)))) ∙ and-false (same_last x y)
