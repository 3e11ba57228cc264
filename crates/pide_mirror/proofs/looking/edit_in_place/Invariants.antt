-- What the rest makes of the text so far is what all edits make of it.
use Rattle.std.proofs.Common.{◌≡◌, length}
use Rattle.buffer_rules.specs.Texts.{edit_all}
use Rattle.pide_mirror.proofs.looking.edit_in_place.Given as goal

abbrev pub invariant-each : goal.invariant-each
invariant-each l = edit_all l.rest l.text ≡ edit_all l.fn.edits l.fn.text

abbrev pub decreases-each : goal.decreases-each
decreases-each l = length l.rest
