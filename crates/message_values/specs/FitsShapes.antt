-- Which texts, ranges and edits have a body.
use Rattle.std.specs.Prelude.{◌≡◌, ℕ, ◌<◌, true, List}
use Rattle.std.specs.Str.{all_scalars}
use Rattle.xml_codec.specs.Data.{int_end}
use Rattle.pide_base.specs.declared.range.Range.{Range}
use Rattle.text_edits.specs.declared.edit.Edit.{Edit}
use Rattle.text_edits.specs.declared.edit.Edit.TheVariants.{Insert, Remove}

-- a list of scalars (The Unicode Standard, D76)
abbrev pub IsText : List ℕ → Type 0
IsText scalars = all_scalars scalars ≡ true

-- ends of at most 18 digits
pub record FitsRange (r : Range) : Type 0 where
  pub start : r.start < int_end
  pub stop : r.stop < int_end

-- a start of at most 18 digits, and a text
abbrev pub FitsEdit : Edit → Type 0
FitsEdit (Insert start text) = (start < int_end) × IsText text
FitsEdit (Remove start text) = (start < int_end) × IsText text
