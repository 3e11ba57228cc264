-- What a snapshot tells of parts (after `Document.Snapshot` of Isabelle/Scala).
use Rattle.std.specs.Prelude.{ℕ, List, [], Some}
use Rattle.std.specs.Option.{option_map_or}
use Rattle.std.specs.List.{flat_map, AllByRecursion}
use Rattle.text_edits.specs.declared.edit.Edit.{Edit}
use Rattle.report_markup.specs.declared.report.Report.{Report}
use Rattle.report_markup.specs.Sorting.{ordered_reports}
use Rattle.snapshots.specs.declared.part.AssignedPart.{AssignedPart}
use Rattle.snapshots.specs.Converted.{left_by}
use Rattle.snapshots.specs.Gathered.{Movable}
use Rattle.message_values.specs.declared.protocol.Protocol.{Protocol}
use Rattle.core_rules.specs.Shown.{PartShown}
use Rattle.core_jobs.specs.declared.results.PartResult.{PartResult}
use Rattle.session_rules.specs.Shown.{placed_reports, protocol_reports}

-- what is shown of parts: their reports at the places of the version's text, as pending edits leave
-- them, in report order
abbrev pub shown_of : List Edit → List PartShown → List Report
shown_of edits parts = ordered_reports (left_by edits (flat_map placed_reports parts))

-- the same as a protocol tells it, where the text is the one behind the edits
abbrev pub marked : Protocol → List ℕ → List Edit → List PartShown → List Report
marked protocol text edits parts = protocol_reports protocol text (shown_of edits parts)

-- what a part reports, where it is finished
abbrev pub reported : PartShown → List Report
reported part = option_map_or (λ reports. reports) part.reports []

-- all that parts report can be moved to the places of the text, and through the edits
abbrev pub AreMovable : List Edit → List PartShown → Type 0
AreMovable edits parts =
    AllByRecursion (λ p. AllByRecursion (Movable edits p.span.start) (reported p)) parts

-- a finished part as one that is assigned
abbrev pub assigned_part : PartResult → AssignedPart
assigned_part part =
    record { exec = part.exec; span = part.span; reports = Some part.reports }
