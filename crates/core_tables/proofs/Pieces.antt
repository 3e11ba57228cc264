-- What a write to a part of a list leaves.
use Rattle.std.proofs.Common.{◌≡◌, ℕ, ◌+◌, ◌-◌, ◌<◌, ◌≤◌, List, [], ◌∷◌, ◌++◌, length, take, drop, set, ◌∙◌, rules, arith}
use Rattle.std.proofs.lemmas.Bool.{cases_eq}
use Rattle.std.proofs.lemmas.List.{same_lists, places, get_or-set_same}
use Rattle.std.proofs.lemmas.Slice.{take-put_mid}
use borrow.Rule.Slice.PartMut.{put_mid}

-- the part that ends with the element that was set
pub part_to : {X : Type 0} (xs : List X) (at stop : ℕ) (p : X) → at ≤ stop → stop < length xs
    → take (stop + 1 - at) (drop at (set xs stop p)) ≡ take (stop - at) (drop at xs) ++ p ∷ []
part_to xs at stop p low high =
    same_lists _ _ (search (rules, places)) (λ k d h. grind (arith, places, get_or-set_same, cases_eq (at + k) stop))

-- the same with that element moved to its front
pub moved_to_front : {X : Type 0} (xs zs : List X) (at stop : ℕ) (p : X) → at ≤ stop → stop < length xs
    → zs ≡ drop (stop - at) (take (stop + 1 - at) (drop at (set xs stop p)))
    ++ take (stop - at) (take (stop + 1 - at) (drop at (set xs stop p)))
    → zs ≡ p ∷ take (stop - at) (drop at xs)
moved_to_front xs zs at stop p low high is = is ∙ rw (part_to xs at stop p low high)
    (same_lists _ _ (search (rules, places)) (λ k d h. grind (arith, places)))

-- what the front of the whole is then
pub front_of : {X : Type 0} (xs zs : List X) (at stop : ℕ) (p : X) → at ≤ stop → stop < length xs
    → zs ≡ drop (stop - at) (take (stop + 1 - at) (drop at (set xs stop p)))
    ++ take (stop - at) (take (stop + 1 - at) (drop at (set xs stop p)))
    → take (stop + 1) (put_mid at (stop + 1 - at) (set xs stop p) zs)
    ≡ take at xs ++ p ∷ take (stop - at) (drop at xs)
front_of xs zs at stop p low high is =
    let e : zs ≡ p ∷ take (stop - at) (drop at xs) = moved_to_front xs zs at stop p low high is in
    let n : length zs ≡ stop + 1 - at = rw e (search (rules, places)) in
    take-put_mid at (stop + 1 - at) (set xs stop p) zs (stop + 1) (omega (arith, n)) (search (rules, places))
    ∙ rw e (same_lists _ _ (search (rules, places)) (λ k d h. grind (arith, places)))
