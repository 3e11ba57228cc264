-- Ranges within a text (this project's own).
use Rattle.std.specs.Prelude.{ℕ, ◌<◌, ◌≤◌, ◌^◌, List, length}
use Rattle.shared_map.specs.Pairs.{Each}
use Rattle.pide_base.specs.declared.range.Range.{Range}
use Rattle.text_edits.specs.declared.edit.Edit.{Edit}
use Rattle.text_edits.specs.Offsets.{convert}
use Rattle.command_spans.specs.CutTexts.{Cuts, AreCutsOf}
use Rattle.buffer_rules.specs.declared.sheet.Sheet.{Sheet}

-- a range whose ends are within a text of so many scalars
abbrev pub IsWithin : ℕ → Range → Type 0
IsWithin len range = (range.start ≤ len) × (range.stop ≤ len)

-- all of these ranges are
abbrev pub AreWithin : ℕ → List Range → Type 0
AreWithin len ranges = Each (IsWithin len) ranges

-- a range through one edit, at both of its ends
abbrev pub moved : Edit → Range → Range
moved edit range = record { start = convert edit range.start; stop = convert edit range.stop }

-- both of its ends are numbers of 64 bits after the edit
abbrev pub IsSmall : Edit → Range → Type 0
IsSmall edit range = (convert edit range.start < 2 ^ 64) × (convert edit range.stop < 2 ^ 64)

-- a sheet whose spans are those of its text, and whose ranges are within it
pub record IsWhole (sheet : Sheet) (spans : Cuts) : Type 0 where
  pub are_cuts : AreCutsOf sheet.text spans
  pub ranges_are : AreWithin (length sheet.text) sheet.ranges
