-- A text behind edits that an editor has made of it.
use Rattle.std.specs.Prelude.{ℕ, ◌≤◌, ◌^◌, List, length}
use Rattle.text_edits.specs.declared.edit.Edit.{Edit}
use Rattle.text_edits.specs.Offsets.{ConvertsBelow}
use Rattle.session_replies.specs.declared.edited.Edited.{Edited}
use Rattle.session_replies.specs.declared.edited.Edited.TheVariants.{Same, Changed}

-- the text, as it was or changed
abbrev pub text_of : Edited → List ℕ
text_of (Same text) = text.now
text_of (Changed text) = text

-- each number fits its type that a place of the text has on its way through the edits
abbrev pub PlacesFit : List Edit → List ℕ → Type 0
PlacesFit edits text = (place : ℕ) → place ≤ length text → ConvertsBelow (2 ^ 64) edits place
