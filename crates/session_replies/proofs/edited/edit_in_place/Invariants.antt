-- What the rest makes of the text so far is what all edits make of it, and places fit so far.
use Rattle.std.proofs.Common.{◌≡◌, length}
use Rattle.buffer_rules.specs.Texts.{edit_all}
use Rattle.session_replies.specs.Edited.{PlacesFit}
use Rattle.session_replies.proofs.edited.edit_in_place.Given as goal

abbrev pub invariant-each : goal.invariant-each
invariant-each l = record {
  text : edit_all l.rest l.text ≡ edit_all l.fn.edits l.fn.text;
  fit : PlacesFit l.rest l.text → PlacesFit l.fn.edits l.fn.text;
}

abbrev pub decreases-each : goal.decreases-each
decreases-each l = length l.rest
