-- The place goes through all edits where it goes through the rest.
use Rattle.std.proofs.Common.{◌^◌, ◌↔◌, drop}
use Rattle.text_edits.specs.Offsets.{ConvertsBelow}
use Rattle.snapshots.proofs.movable.fits_through.Given as goal

abbrev pub invariant-loop-edit : goal.invariant-loop-edit
invariant-loop-edit l = ConvertsBelow (2 ^ 64) (drop l.edit-index l.edits) l.place ↔ ConvertsBelow (2 ^ 64) l.edits l.initial.place
