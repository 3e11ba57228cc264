-- What is written, and the reports that are left, make up the body.
use Rattle.std.proofs.Common.{◌≡◌, ◌++◌, string_bytes, drop, map}
use Rattle.yxml.specs.Spelling.{yxml}
use Rattle.report_markup.specs.Element.{element}
use Rattle.report_markup.proofs.element.write_reports.Given as goal

abbrev pub invariant-loop-report : goal.invariant-loop-report
invariant-loop-report l = string_bytes l.out ++ yxml (map element (drop l.report-index l.reports))
    ≡ string_bytes l.initial.out ++ yxml (map element l.reports)
