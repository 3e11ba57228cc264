-- What edits make of a text, or why they are refused (after `Text.Edit` of Isabelle).
use Rattle.std.specs.Prelude.{ℕ, ◌+◌, Bool, false, not, nat_lt, if◌then◌else◌, List, ◌++◌, length, take, drop, Result, Ok, Err}
use Rattle.text_edits.specs.declared.edit.Edit.{Edit}
use Rattle.text_edits.specs.declared.edit.Edit.TheVariants.{Insert, Remove}
use Rattle.doc_nodes.specs.Names.{equal}
use Rattle.message_values.specs.declared.refusal.Refusal.{Refusal}
use Rattle.message_values.specs.declared.refusal.Refusal.TheVariants.{EditOutOfRange, RemoveDiffers}
use Rattle.buffer_rules.specs.Trying.{steps}

-- an insert's start, or a remove's end, is above the text's length
abbrev pub is_out_of_range : Edit → List ℕ → Bool
is_out_of_range (Insert start x) text = nat_lt (length text) start
is_out_of_range (Remove start x) text = nat_lt (length text) (start + length x)

-- the text has another at a remove
abbrev pub differs : Edit → List ℕ → Bool
differs (Insert start x) text = false
differs (Remove start x) text = not (equal x (take (length x) (drop start text)))

-- the text with the insert put in, or without what is removed
abbrev pub edited : Edit → List ℕ → List ℕ
edited (Insert start x) text = take start text ++ x ++ drop start text
edited (Remove start x) text = take start text ++ drop (start + length x) text

-- one edit
abbrev pub edit_once : Edit → List ℕ → Result (List ℕ) Refusal
edit_once edit text = if is_out_of_range edit text then Err EditOutOfRange
    else if differs edit text then Err RemoveDiffers else Ok (edited edit text)

-- one edit after the other
abbrev pub edit_all : List Edit → List ℕ → Result (List ℕ) Refusal
edit_all = steps edit_once
