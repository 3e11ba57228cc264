-- What has been read, and the chunks that are left, are the text's.
use Rattle.std.proofs.Common.{◌≡◌, ◌+◌, length}
use denote.Text.{Utf8}
use denote.Shadow.{shadow}
use Rattle.std.specs.List.{slice_split}
use Rattle.yxml.specs.Reading.{is_x}
use Rattle.yxml.proofs.Progress.{Progress}
use Rattle.yxml.proofs.reading.read_all.Given as goal

abbrev pub invariant-loop-chunk : goal.invariant-loop-chunk
invariant-loop-chunk l = shadow (Utf8 l.rest) × (l.at + length l.rest ≡ length l.text)
    × Progress l.text l.builder l.at (slice_split is_x l.rest)

abbrev pub decreases-loop-chunk : goal.decreases-loop-chunk
decreases-loop-chunk l = length l.rest
