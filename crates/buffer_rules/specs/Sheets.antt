-- What one item of an update makes of a node's text and perspective, or why it is refused (after
-- PIDE's perspectives and edits).
use Rattle.std.specs.Prelude.{ℕ, Bool, false, ◌||◌, ◌==◌, not, nat_lt, if◌then◌else◌, List, [], length, map, filter, Option, Some, None, Result, Ok, Err}
use Rattle.std.specs.Option.{option_map_or}
use Rattle.std.specs.List.{list_any}
use Rattle.shared_map.specs.Pairs.{found}
use Rattle.shared_map.specs.Changes.{put, without}
use Rattle.pide_base.specs.declared.range.Range.{Range}
use Rattle.text_edits.specs.declared.edit.Edit.{Edit}
use Rattle.text_edits.specs.Offsets.{convert_list}
use Rattle.doc_nodes.specs.Names.{in_order}
use Rattle.message_values.specs.declared.item.Perspective.{Perspective}
use Rattle.message_values.specs.declared.item.Change.{Change}
use Rattle.message_values.specs.declared.item.Change.TheVariants as change
use Rattle.message_values.specs.declared.item.Item.{Item}
use Rattle.message_values.specs.declared.refusal.Refusal.{Refusal}
use Rattle.message_values.specs.declared.refusal.Refusal.TheVariants.{UnknownNode, PerspectiveOutOfRange}
use Rattle.buffer_rules.specs.declared.sheet.Sheet.{Sheet}
use Rattle.buffer_rules.specs.Trying.{◌>>=◌}
use Rattle.buffer_rules.specs.Texts.{edit_all}

-- what an editor has of nodes: pairs of a name and a sheet, in the order of names
abbrev pub SheetList : Type 0
SheetList = List (List ℕ × Sheet)

-- how a node begins: with an empty text, not required, nothing visible
abbrev pub blank : Sheet
blank = record { text = []; required = false; ranges = [] }

-- the sheet of a name, or a blank one
abbrev pub sheet_of : List ℕ → SheetList → Sheet
sheet_of name sheets = option_map_or (λ sheet. sheet) (found in_order name sheets) blank

-- a range through edits, at both of its ends
abbrev pub converted : List Edit → Range → Range
converted edits range = record {
  start = convert_list edits range.start;
  stop = convert_list edits range.stop;
}

-- a range that has no scalar
abbrev pub is_empty : Range → Bool
is_empty range = range.start == range.stop

-- the ranges through edits; those that are empty then are dropped
abbrev pub ranges_after : List Edit → List Range → List Range
ranges_after edits ranges = filter (λ range. not (is_empty range)) (map (converted edits) ranges)

-- a range that begins above its end, or ends above the text's
abbrev pub is_outside : ℕ → Range → Bool
is_outside len range = nat_lt range.stop range.start || nat_lt len range.stop

-- the sheet under a perspective that is told, or with what becomes of the one that it had
abbrev pub seen_by : Option Perspective → List Edit → Sheet → List ℕ → Result Sheet Refusal
seen_by None edits sheet text =
    Ok (record { text = text; required = sheet.required; ranges = ranges_after edits sheet.ranges })
seen_by (Some told) edits sheet text = if list_any (is_outside (length text)) told.ranges
    then Err PerspectiveOutOfRange
    else Ok (record { text = text; required = told.required; ranges = told.ranges })

-- the sheet after edits, and then a perspective if there is one
abbrev pub sheet_after : List Edit → Option Perspective → Sheet → Result Sheet Refusal
sheet_after edits told sheet = edit_all edits sheet.text >>= seen_by told edits sheet

-- a node that is closed goes; one that is edited and not there begins blank
abbrev pub change_one : List ℕ → Change → SheetList → Result SheetList Refusal
change_one name change.Close sheets = option_map_or
    (λ sheet. Ok (without in_order name sheets)) (found in_order name sheets) (Err UnknownNode)
change_one name (change.Edit edits told) sheets =
    sheet_after edits told (sheet_of name sheets)
    >>= λ sheet. Ok (put in_order (name, sheet) sheets)

-- one item
abbrev pub item_once : Item → SheetList → Result SheetList Refusal
item_once item sheets = change_one item.node item.change sheets
