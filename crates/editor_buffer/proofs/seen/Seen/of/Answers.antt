use Rattle.std.proofs.Common.{sym, ap, ◌∙◌, subst, rules}
use Rattle.std.specs.List.Sorted.{IsNonDecreasingBy}
use Rattle.std.proofs.lemmas.List.Sorted.{IsNonDecreasingBy-from_sort_by_key, list_any-IsPermutation}
use Rattle.buffer_rules.specs.Cuts.{share, is_seen}
use Rattle.editor_buffer.specs.Spread.{AreSpread, spread}
use Rattle.editor_buffer.proofs.Spreading.{sorted_filled, all_spread, all_alike, filled_alike}
use Rattle.pide_base.specs.declared.range.Range.{Range}
use Rattle.editor_buffer.proofs.seen.Seen.of.Goals as goal

pub invariant_of-result : goal.invariant_of-result
invariant_of-result c =
    let sorted = c.sort_unstable_by_key.new.self.items in
    let up : IsNonDecreasingBy (λ (r : Range). r.start) sorted =
    IsNonDecreasingBy-from_sort_by_key (λ (r : Range). r.start) sorted c.sort_unstable_by_key.ensures.sorted (λ a r q k. search rules) in
    let filled = sorted_filled c.args.ranges.now c.in_ok-sorted.sorted.items sorted c.in_ok-sorted.ensures c.sort_unstable_by_key.ensures.permutation in
    subst (λ rs. AreSpread rs) (sym (c.in_ok-ranges.ensures ∙ ap (spread 0) c.deref.ensures.value)) (all_spread sorted 0 up filled)

pub returns : goal.returns
returns c = λ range.
    let all = c.in_ok-sorted.sorted.items in
    let sorted = c.sort_unstable_by_key.new.self.items in
    let up : IsNonDecreasingBy (λ (r : Range). r.start) sorted =
    IsNonDecreasingBy-from_sort_by_key (λ (r : Range). r.start) sorted c.sort_unstable_by_key.ensures.sorted (λ a r q k. search rules) in
    let filled = sorted_filled c.args.ranges.now c.in_ok-sorted.sorted.items sorted c.in_ok-sorted.ensures c.sort_unstable_by_key.ensures.permutation in
    ap (λ rs. is_seen rs range) (c.in_ok-ranges.ensures ∙ ap (spread 0) c.deref.ensures.value)
    ∙ all_alike sorted up filled range
    ∙ sym (list_any-IsPermutation (share range) all sorted c.sort_unstable_by_key.ensures.permutation)
    ∙ ap (λ rs. is_seen rs range) c.in_ok-sorted.ensures
    ∙ filled_alike c.args.ranges.now range
