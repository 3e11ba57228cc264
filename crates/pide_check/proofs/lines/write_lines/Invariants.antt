-- All lines are on their way, those of the reports that are left behind the others.
use Rattle.std.proofs.Common.{◌≤◌, length, string_bytes}
use Rattle.std.specs.List.{flat_map}
use Rattle.text_check.specs.Lines.{report_line}
use Rattle.pide_check.specs.Writing.{AreOnTheirWay}
use Rattle.pide_check.proofs.lines.write_lines.Given as goal

abbrev pub invariant-reports : goal.invariant-reports
invariant-reports g l = AreOnTheirWay (g.K.Sink.contents l.fn.sink) (g.K.Sink.contents l.sink) (string_bytes l.text)
    (flat_map report_line l.rest) (flat_map report_line l.reports)
    × (g.K.Sink.faults l.fn.sink ≤ g.K.Sink.faults l.sink)

abbrev pub decreases-reports : goal.decreases-reports
decreases-reports g l = length l.rest
