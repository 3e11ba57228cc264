use Rattle.std.proofs.Common.{rules, ◌≡◌, List, map, sym, ap, subst, ◌∙◌}
use Rattle.report_markup.specs.declared.report.Report.{Report}
use Rattle.report_markup.specs.Sorting.{ordered_reports}
use Rattle.snapshots.specs.declared.part.AssignedPart.{AssignedPart}
use Rattle.snapshots.specs.Converted.{left_by}
use Rattle.snapshots.specs.Gathered.{AllMovable}
use Rattle.snapshots.specs.Gathered as gathering
use Rattle.session_replies.specs.Marked.{assigned_part}
use Rattle.session_replies.proofs.AssignedParts.{all_movable, gathered_same}
use Rattle.session_replies.proofs.marked.shown_parts.Goals as goal

pub snapshot-requires : goal.snapshot-requires
snapshot-requires c =
    let same : c.as_slice.result.now ≡ map assigned_part c.args.parts.now = search rules in
    subst (AllMovable c.args.edits.now) (sym same) (all_movable c.args.edits.now c.args.parts.now c.requires)

pub returns : goal.returns
returns c =
    let same : c.as_slice.result.now ≡ map assigned_part c.args.parts.now = search rules in
    c.in_ok-reports.ensures.reports
    ∙ ap (λ (ps : List AssignedPart). gathering.snapshot_reports c.args.edits.now ps) same
    ∙ ap (λ (rs : List Report). ordered_reports (left_by c.args.edits.now rs))
    (gathered_same c.args.parts.now)
