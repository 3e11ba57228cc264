-- The last edit that is left is gone back through first.
use Rattle.std.proofs.Common.{◌^◌, sym, ◌∙◌, ap}
use Rattle.text_edits.specs.Offsets.{revert_list}
use Rattle.text_edits.proofs.OffsetLemmas.{below_last, revert_list-append}
use Rattle.text_edits.proofs.offsets.revert_list.Goals as goal

pub revert-place-requires : goal.revert-place-requires
revert-place-requires c =
    (below_last (2 ^ 64) c.in-Some.before.now c.in-Some.last.now c.edits.place (rw c.in-Some.ensures.cases.0 at c.edits.invariant.below)).0

pub edits-preserved : goal.edits-preserved
edits-preserved c = record {
  below = rw c.revert-place.ensures (below_last (2 ^ 64) c.in-Some.before.now c.in-Some.last.now c.edits.place (rw c.in-Some.ensures.cases.0 at c.edits.invariant.below)).1;
  same = ap (revert_list c.in-Some.before.now) c.revert-place.ensures
      ∙ sym (revert_list-append c.in-Some.before.now c.in-Some.last.now c.edits.place)
      ∙ rw c.in-Some.ensures.cases.0 at c.edits.invariant.same;
}
