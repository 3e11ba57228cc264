use Rattle.std.proofs.Common.{◌≡◌, ◌^◌, length}
use Rattle.text_edits.specs.Offsets.{revert_list, RevertsBelow}
use Rattle.text_edits.proofs.offsets.revert_list.Given as goal

abbrev pub invariant-edits : goal.invariant-edits
invariant-edits l = record {
  below : RevertsBelow (2 ^ 64) l.rest l.place;
  same : revert_list l.rest l.place ≡ revert_list l.edits l.offset;
}

abbrev pub decreases-edits : goal.decreases-edits
decreases-edits l = length l.rest
