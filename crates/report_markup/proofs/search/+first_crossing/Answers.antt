use Rattle.std.proofs.Common.{sym, ◌∙◌}
use Rattle.std.specs.Arc.{arc_value}
use Rattle.report_markup.proofs.InnermostLemmas.{first_before, first_here, first_behind}
use Rattle.report_markup.proofs.search.+first_crossing.Goals as goal

pub returns-in-Some : goal.returns-in-Some
returns-in-Some t c =
    first_before c.args.tree.now c.in_ok-parts.parts.left.now (arc_value c.in_ok-parts.parts.report.now) c.deref-report.result.now c.in_ok-parts.parts.right.now c.in_ok-parts.ensures c.deref-report.ensures c.args.range
    c.in-Some.found c.in-Some.ensures

pub returns-in-None : goal.returns-in-None
returns-in-None t c =
    first_here c.args.tree.now c.in_ok-parts.parts.left.now (arc_value c.in_ok-parts.parts.report.now) c.deref-report.result.now c.in_ok-parts.parts.right.now c.in_ok-parts.ensures c.deref-report.ensures c.args.range
    c.in-None.ensures (sym c.crosses.ensures ∙ c.if-crosses.true)

pub returns-in-None-2 : goal.returns-in-None-2
returns-in-None-2 t c =
    first_behind c.args.tree.now c.in_ok-parts.parts.left.now (arc_value c.in_ok-parts.parts.report.now) c.deref-report.result.now c.in_ok-parts.parts.right.now c.in_ok-parts.ensures c.deref-report.ensures c.args.range
    c.first_crossing-in-None-2.result c.in-None-2.ensures (sym c.crosses.ensures ∙ c.if-crosses.false) c.first_crossing-in-None-2.ensures
