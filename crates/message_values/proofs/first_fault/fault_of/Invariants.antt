-- The first fault of the text is that of the chunks that are left.
use Rattle.std.proofs.Common.{◌≡◌, ◌<◌, ◌≤◌, ◌+◌, length}
use denote.Text.{Utf8}
use denote.Shadow.{shadow}
use Rattle.std.specs.List.{slice_split}
use Rattle.yxml.specs.Reading.{is_x, first_fault, fault_in}
use Rattle.message_values.proofs.first_fault.fault_of.Given as goal

abbrev pub invariant-loop-rest : goal.invariant-loop-rest
invariant-loop-rest l = shadow (Utf8 l.rest) × (l.depth ≤ 200) × (0 < length l.rest → l.at + length l.rest ≤ length l.text)
    × (l.at ≤ length l.text + 1) × (fault_in l.text ≡ first_fault l.depth l.at (slice_split is_x l.rest) (length l.text))

abbrev pub decreases-loop-rest : goal.decreases-loop-rest
decreases-loop-rest l = length l.rest
