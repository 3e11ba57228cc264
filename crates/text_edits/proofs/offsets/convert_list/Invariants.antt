use Rattle.std.proofs.Common.{◌≡◌, ◌^◌, drop}
use Rattle.text_edits.specs.Offsets.{convert_list, ConvertsBelow}
use Rattle.text_edits.proofs.offsets.convert_list.Given as goal

abbrev pub invariant-edits : goal.invariant-edits
invariant-edits l = record {
  below : ConvertsBelow (2 ^ 64) (drop l.edit-index l.edits) l.place;
  same : convert_list (drop l.edit-index l.edits) l.place ≡ convert_list l.edits l.offset;
}
