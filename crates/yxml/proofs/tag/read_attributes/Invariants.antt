-- The attributes that are read, and what is left, make up the text's.
use Rattle.std.proofs.Common.{◌≡◌, length}
use denote.Text.{Utf8}
use denote.Shadow.{shadow}
use Rattle.std.specs.List.{slice_split}
use Rattle.yxml.specs.Reading.{attributes_of, is_y}
use Rattle.yxml.proofs.Attributes.{behind}
use Rattle.yxml.proofs.tag.read_attributes.Given as goal

abbrev pub invariant-loop-first : goal.invariant-loop-first
invariant-loop-first l = shadow (Utf8 l.rest)
    × (attributes_of (slice_split is_y l.text) ≡ behind l.attributes (attributes_of (slice_split is_y l.rest)))

abbrev pub decreases-loop-first : goal.decreases-loop-first
decreases-loop-first l = length l.rest
