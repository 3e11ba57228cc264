-- Which ids commands have.
use Rattle.std.proofs.Common.{◌≡◌, ℕ, ◌+◌, ◌-◌, ◌≤◌, List, ◌++◌, length, take, drop, map, ap, ◌∙◌, subst, arith}
use Rattle.std.specs.List.{range_with_len}
use Rattle.std.proofs.lemmas.List.{length-map, length-reverse, length-drop, length-take-le, length-append, take-append-le, drop-append-le}
use Rattle.std.proofs.Math.Seq.{drop-append_seam, take-append_seam}
use Rattle.std.proofs.lemmas.List.FromFn.{length-range_with_len}
use Rattle.buffer_rules.specs.Numbers.{Command, Kept, kept_runs, with_kept, ids_of, IsLongestKept, IsNumbered}
use Rattle.buffer_rules.proofs.NumberLaws.{kept_so}

-- the ids of a front, of what is new and of a back
numbered : (k : Kept) (ids : List ℕ) (count next : ℕ) → k.front + k.back ≤ length ids
    → k.front + k.back ≤ count → IsNumbered k ids count next (with_kept k ids count next)
numbered k ids count next within room =
    let fresh = count - k.front - k.back in
    let first = take k.front ids in
    let new = range_with_len next fresh in
    let last = drop (length ids - k.back) ids in
    let firsts : length first ≡ k.front = length-take-le k.front ids (omega arith) in
    let news : length new ≡ fresh = length-range_with_len next fresh in
    let lasts : length last ≡ k.back = length-drop (length ids - k.back) ids ∙ omega arith in
    let both : length (first ++ new) ≡ k.front + fresh = length-append first new ∙ omega (arith, firsts, news) in
    record {
      counted = length-append (first ++ new) last ∙ omega (arith, both, lasts);
      front = subst (λ n. take n (first ++ new ++ last) ≡ first) firsts
          (take-append-le (length first) (first ++ new) last (omega (arith, both, firsts)) ∙ take-append_seam first new);
      new = subst (λ n. take fresh (drop n (first ++ new ++ last)) ≡ new) firsts
          (ap (take fresh) (drop-append-le (length first) (first ++ new) last (omega (arith, both, firsts))
          ∙ ap (λ xs. xs ++ last) (drop-append_seam first new))
          ∙ subst (λ n. take n (new ++ last) ≡ new) news (take-append_seam new last));
      back = subst (λ n. drop n (first ++ new ++ last) ≡ last) (both ∙ omega arith)
          (drop-append_seam (first ++ new) last);
    }

-- the same of the commands of a node
pub ids_so : (before : List Command) (now : List (List ℕ)) (next : ℕ) → IsNumbered
    (kept_runs (map (λ c. c.1) before) now) (map (λ c. c.0) before) (length now) next
    (ids_of before now next)
ids_so before now next =
    let sources = map (λ c. c.1) before in
    let k = kept_runs sources now in
    let so : IsLongestKept sources now k = kept_so sources now in
    let olds : length sources ≡ length before = length-map before (λ c. c.1) in
    let ids : length (map (λ c. c.0) before) ≡ length before = length-map before (λ c. c.0) in
    let back_old : k.back ≤ length sources - k.front =
    subst (λ n. k.back ≤ n) (length-reverse (drop k.front sources) ∙ length-drop k.front sources) so.back.within.0
    in
    let back_new : k.back ≤ length now - k.front =
    subst (λ n. k.back ≤ n) (length-reverse (drop k.front now) ∙ length-drop k.front now) so.back.within.1
    in
    numbered k (map (λ c. c.0) before) (length now) next
    (omega (arith, olds, ids, back_old, so.front.within.0))
    (omega (arith, back_new, so.front.within.1))
