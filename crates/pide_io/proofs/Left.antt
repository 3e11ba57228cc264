-- What is left of a list after its first elements were moved.
use Rattle.std.proofs.Common.{◌≡◌, ◌+◌, ◌-◌, ℕ, List, ◌++◌, length, take, drop, sym, ap, ◌∙◌, take-append-drop}
use Rattle.std.proofs.lemmas.List.{take_rest, drop-drop}

-- n more were moved to the front of a buffer
pub moved_front : (xs buffer : List ℕ) (at n : ℕ) → take n buffer ≡ take n (take (length xs - at) (drop at xs)) → drop at xs ≡ take n buffer ++ drop (at + n) xs
moved_front xs buffer at n e =
    let same : take n buffer ≡ take n (drop at xs) = e ∙ ap (take n) (take_rest xs at) in
    sym (take-append-drop n (drop at xs)) ∙ ap (λ ys. ys ++ drop n (drop at xs)) (sym same) ∙ ap (λ ys. take n buffer ++ ys) (drop-drop n at xs)
