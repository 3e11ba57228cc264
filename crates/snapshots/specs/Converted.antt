-- What pending edits leave of reports.
use Rattle.std.specs.Prelude.{◌∷◌, [], ◌^◌, List, Option, Some, None, nat_lt, if◌then◌else◌}
use Rattle.std.specs.List.{flat_map}
use Rattle.pide_base.specs.declared.range.Range.{Range}
use Rattle.text_edits.specs.declared.edit.Edit.{Edit}
use Rattle.text_edits.specs.Offsets.{convert_list, ConvertsBelow}
use Rattle.report_markup.specs.declared.report.Report.{Report}

-- the range between the converted ends (after `Text.Edit` of Isabelle)
abbrev pub converted : List Edit → Range → Range
converted edits range =
    record { start = convert_list edits range.start; stop = convert_list edits range.stop }

-- the range, if something stands in it
abbrev pub if_filled : Range → Option Range
if_filled range = if nat_lt range.start range.stop then Some range else None

-- where a range is after the edits, if they leave something of it (this project's own)
abbrev pub left_range : List Edit → Range → Option Range
left_range [] range = Some range
left_range (e ∷ es) range = if_filled (converted (e ∷ es) range)

-- a report at another range, where there is one
abbrev pub at_range : Report → Option Range → List Report
at_range r (Some range) = record r { range = range } ∷ []
at_range r None = []

-- what the edits leave of reports: their ranges converted, and empty ones left out
abbrev pub left_by : List Edit → List Report → List Report
left_by edits reports = flat_map (λ r. at_range r (left_range edits r.range)) reports

-- each number on the way through the edits fits its type
abbrev pub Fits : List Edit → Range → Type 0
Fits edits range =
    ConvertsBelow (2 ^ 64) edits range.start × ConvertsBelow (2 ^ 64) edits range.stop
