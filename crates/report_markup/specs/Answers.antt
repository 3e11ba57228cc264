-- What adding a report answers where it fails.
use Rattle.std.specs.Prelude.{◌≡◌, ⊤, Option, Some}
use Rattle.pide_base.specs.declared.range.Range.{Range}
use Rattle.report_markup.specs.declared.markup.AddError.{AddError}
use Rattle.report_markup.specs.declared.markup.AddError.TheVariants.{Overlap, NoMemory}

-- the error tells the range that is crossed, or that there was no memory
abbrev pub Tells : Option Range → AddError → Type 0
Tells crossed (Overlap range) = crossed ≡ Some range
Tells crossed NoMemory = ⊤
