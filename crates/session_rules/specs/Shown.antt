-- What a snapshot shows (after `Document.Snapshot` of Isabelle/Scala).
use Rattle.std.specs.Prelude.{ℕ, List, [], map}
use Rattle.std.specs.Option.{option_map_or}
use Rattle.std.specs.List.{flat_map}
use Rattle.text_edits.specs.declared.edit.Edit.{Edit}
use Rattle.report_markup.specs.declared.report.Report.{Report}
use Rattle.report_markup.specs.Ranges.{moved}
use Rattle.report_markup.specs.Sorting.{ordered_reports}
use Rattle.snapshots.specs.Converted.{left_by}
use Rattle.symbol_markup.specs.Told.{in_symbols}
use Rattle.exec_rules.specs.declared.version.Version.{Version}
use Rattle.language.specs.Lang.{Lang}
use Rattle.message_values.specs.declared.protocol.Protocol.{Protocol}
use Rattle.message_values.specs.declared.protocol.Protocol.TheVariants.{Scalars, Symbols}
use Rattle.core_rules.specs.declared.event.Event.{Event}
use Rattle.core_rules.specs.Shown.{PartShown, scratch_shown}

-- the reports of a part where it is finished, at the places of the version's text
abbrev pub placed_reports : PartShown → List Report
placed_reports part = option_map_or (map (moved part.span.start)) part.reports []

-- of what checking the version's text from nothing reports, that of the finished parts, as pending
-- edits leave it, in report order
abbrev pub finished_reports : {S : Type 0} → Lang S → List Event → Version → List ℕ → List Edit
    → List Report
finished_reports l events version name edits =
    ordered_reports (left_by edits (flat_map placed_reports (scratch_shown l events version name)))

-- reports of a text as a protocol tells them: places count scalars from 0, or symbols from 1
abbrev pub protocol_reports : Protocol → List ℕ → List Report → List Report
protocol_reports Scalars text reports = reports
protocol_reports Symbols text reports = in_symbols text reports
