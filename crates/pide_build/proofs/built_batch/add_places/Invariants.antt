use Rattle.std.proofs.Common.{◌≡◌, ◌++◌, map, slice_index, take}
use Rattle.pide_build.proofs.built_batch.add_places.Given as goal

abbrev pub invariant-numbers : goal.invariant-numbers
invariant-numbers l = l.all.items ≡ l.initial.all.items ++ map (slice_index l.places) (take l.number-index l.numbers)
