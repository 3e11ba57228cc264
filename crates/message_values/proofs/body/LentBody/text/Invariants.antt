-- What has been read, and the marks that are left, are those of the body.
use Rattle.std.proofs.Common.{◌≡◌, length}
use denote.Text.{Utf8}
use denote.Shadow.{shadow}
use Rattle.yxml.specs.Reading.{marks_in}
use Rattle.yxml.specs.Spelling.{merged_texts}
use Rattle.message_values.specs.Inside.{inside}
use Rattle.message_values.proofs.Merged.{joined}
use Rattle.message_values.proofs.body.LentBody.text.Given as goal

abbrev pub invariant-loop-first : goal.invariant-loop-first
invariant-loop-first l = shadow (Utf8 l.rest)
    × (merged_texts (inside 0 (marks_in l.initial.rest)) ≡ joined l.text
    (inside 0 (marks_in l.rest)))

abbrev pub decreases-loop-first : goal.decreases-loop-first
decreases-loop-first l = length l.rest
