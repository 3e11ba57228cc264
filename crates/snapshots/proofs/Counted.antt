-- What is shown, counted and in order.
use Rattle.std.proofs.Common.{◌≡◌, ℕ, ◌+◌, ◌<◌, List, [], ◌∷◌, length, map, refl, sym, ap, ◌∙◌, arith, take, drop, ◌++◌}
use Rattle.std.specs.List.{sum_by}
use Rattle.std.specs.List.Sorted.{IsSorted, IsPermutation}
use Rattle.std.specs.Ordering.{on}
use Rattle.std.proofs.lemmas.List.{get_or-map, length-map, drop_all, take_all, append-nil}
use Rattle.std.proofs.lemmas.List.Sorted.{sum_by-IsPermutation, length_permutation}
use Rattle.std.proofs.lemmas.List.Sums.{sum_by-cons}
use Rattle.report_markup.specs.declared.report.Report.{Report}
use Rattle.report_markup.specs.Order.{report_cmp}
use Rattle.snapshots.specs.declared.shown.Shown.{Shown}
use Rattle.snapshots.specs.Seen.{seen, CountsSame}

sum_by-seen : (f : Report → ℕ) (xs : List Shown) → sum_by f (map seen xs) ≡ sum_by (λ s. f (seen s)) xs
sum_by-seen f [] = refl
sum_by-seen f (x ∷ xs) =
    sum_by-cons f (seen x) (map seen xs) ∙ ap (λ n. f (seen x) + n) (sum_by-seen f xs) ∙ sym (sum_by-cons (λ s. f (seen s)) x xs)

-- however they are counted, it is the same in another order
pub same_counts : (xs ys : List Shown) → IsPermutation xs ys → CountsSame xs ys
same_counts xs ys h f =
    sum_by-seen f ys ∙ sum_by-IsPermutation (λ s. f (seen s)) xs ys h ∙ sym (sum_by-seen f xs)

pub sorted_seen : (xs : List Shown) → IsSorted (on seen report_cmp) xs → IsSorted report_cmp (map seen xs)
sorted_seen [] h k d low high = absurd (omega arith)
sorted_seen (x ∷ xs) h k d low high =
    let within : k + 1 < length (x ∷ xs) = omega (arith, length-map (x ∷ xs) seen) in
    let here : k < length (x ∷ xs) = omega arith in
    rw (get_or-map seen (x ∷ xs) (k + 1) x d within, get_or-map seen (x ∷ xs) k x d here) (h k x low within)

-- what a call leaves in a vector's slice, read back from the vector
pub read_back : (xs ys zs : List Shown) (n : ℕ) → xs ≡ ys → n ≡ length ys → IsPermutation xs zs
    → CountsSame ys (take n (zs ++ drop (length zs) ys))
read_back xs ys zs n e len h f =
    let size : length zs ≡ length ys = length_permutation xs zs h ∙ ap length e in
    let back : take n (zs ++ drop (length zs) ys) ≡ zs =
    ap (λ ws. take n (zs ++ ws)) (drop_all (length zs) ys (omega arith)) ∙ ap (take n) (append-nil zs) ∙ take_all n zs (omega arith) in
    ap (λ ws. sum_by f (map seen ws)) back ∙ same_counts xs zs h f ∙ ap (λ ws. sum_by f (map seen ws)) e
