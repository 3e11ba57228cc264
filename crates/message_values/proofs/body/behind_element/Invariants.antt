-- So many elements are open, and what follows the end tag stands behind the rest.
use Rattle.std.proofs.Common.{◌≡◌, ◌+◌, ◌≤◌, length}
use denote.Text.{Utf8}
use denote.Shadow.{shadow}
use Rattle.yxml.specs.Reading.{marks_in}
use Rattle.message_values.specs.Inside.{behind}
use Rattle.message_values.proofs.body.behind_element.Given as goal

abbrev pub invariant-loop-first : goal.invariant-loop-first
invariant-loop-first l = shadow (Utf8 l.rest) × (behind 0 (marks_in l.text) ≡ behind l.depth (marks_in l.rest))
    × (l.depth + length l.rest ≤ length l.text)

abbrev pub decreases-loop-first : goal.decreases-loop-first
decreases-loop-first l = length l.rest
