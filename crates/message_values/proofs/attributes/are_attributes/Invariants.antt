-- All pieces are attributes just where all that are left are.
use Rattle.std.proofs.Common.{◌≢◌, ◌↔◌, None, length}
use denote.Text.{Utf8}
use denote.Shadow.{shadow}
use Rattle.std.specs.List.{slice_split}
use Rattle.yxml.specs.Reading.{is_y, attributes_of}
use Rattle.message_values.proofs.attributes.are_attributes.Given as goal

abbrev pub invariant-loop-piece : goal.invariant-loop-piece
invariant-loop-piece l = shadow (Utf8 l.rest)
    × ((attributes_of (slice_split is_y l.text) ≢ None) ↔ (attributes_of (slice_split is_y l.rest) ≢ None))

abbrev pub decreases-loop-piece : goal.decreases-loop-piece
decreases-loop-piece l = length l.rest
