-- What is written, and the reports that are left, make up the body.
use Rattle.std.proofs.Common.{◌≡◌, ◌++◌, string_bytes, drop, map}
use Rattle.yxml.specs.Spelling.{yxml}
use Rattle.report_markup.specs.Element.{element}
use Rattle.snapshots.specs.Seen.{seen}
use Rattle.snapshots.proofs.content.write_shown.Given as goal

abbrev pub invariant-loop-shown : goal.invariant-loop-shown
invariant-loop-shown l = string_bytes l.out ++ yxml (map element (map seen (drop l.shown-index l.reports)))
    ≡ string_bytes l.initial.out ++ yxml (map element (map seen l.reports))
