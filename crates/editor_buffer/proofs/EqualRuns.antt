-- Sources that are equal from the front on, counted among the pairs of both lists.
use Rattle.std.proofs.Common.{◌≡◌, ℕ, suc, ◌+◌, Bool, true, false, cond, List, [], ◌∷◌, length, zip, take_while, take, drop, reverse, ◌-◌, refl, ap, ◌∙◌, arith, length-drop, take_all}
use Rattle.std.specs.List.{prefix_len}
use Rattle.std.proofs.lemmas.List.Folds.{length-prefix_len}
use Rattle.doc_nodes.specs.Names.{equal}
use Rattle.buffer_rules.specs.Numbers.{equal_front, equal_back}

abbrev are_same : List ℕ × List ℕ → Bool
are_same pair = equal pair.0 pair.1

-- so many pairs before the first that differs
abbrev pub counted : List (List ℕ) → List (List ℕ) → ℕ
counted xs ys = length (take_while (λ (pair : List ℕ × List ℕ). equal pair.0 pair.1) (zip xs ys))

one_more : (same : Bool) (n : ℕ) → cond same (1 + n) 0 ≡ cond same (suc n) 0
one_more true n = omega arith
one_more false n = refl

front_is : (xs ys : List (List ℕ)) → prefix_len are_same (zip xs ys) ≡ equal_front xs ys
front_is [] ys = refl
front_is (x ∷ xs) [] = refl
front_is (x ∷ xs) (y ∷ ys) =
    ap (λ n. cond (equal x y) (1 + n) 0) (front_is xs ys) ∙ one_more (equal x y) (equal_front xs ys)

pub counted_front : (xs ys : List (List ℕ)) → counted xs ys ≡ equal_front xs ys
counted_front xs ys = length-prefix_len are_same (zip xs ys) ∙ front_is xs ys

whole : (xs : List (List ℕ)) (front : ℕ) → take (length xs - front) (drop front xs) ≡ drop front xs
whole xs front = take_all (length xs - front) (drop front xs) (omega (arith, length-drop front xs))

-- the same of what is left behind a front
pub counted_back : (xs ys : List (List ℕ)) (front : ℕ)
    → counted (reverse (take (length xs - front) (drop front xs))) (reverse (take (length ys - front) (drop front ys)))
    ≡ equal_back (drop front xs) (drop front ys)
counted_back xs ys front =
    ap (λ l. counted (reverse l) (reverse (take (length ys - front) (drop front ys)))) (whole xs front)
    ∙ ap (λ l. counted (reverse (drop front xs)) (reverse l)) (whole ys front)
    ∙ counted_front (reverse (drop front xs)) (reverse (drop front ys))
