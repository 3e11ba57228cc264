use Rattle.std.proofs.Common.{sym, ◌∙◌, inl, inr}
use Rattle.std.specs.Arc.{arc_value}
use Rattle.report_markup.proofs.BoundLemmas.{none_around}
use Rattle.report_markup.proofs.InnermostLemmas.{inner_behind, inner_here, inner_before}
use Rattle.report_markup.proofs.search.+innermost.Goals as goal
use Rattle.report_markup.proofs.search.+innermost.Goals.{then-bounds-place-via-then-bounds-place, then-bounds-place-via-else-bounds-place+then-bounds-place-2}

pub returns-then-bounds-place : goal.returns-then-bounds-place
returns-then-bounds-place t c = elim c.then-bounds-place.branch [
  | then-bounds-place-via-then-bounds-place w ↦ sym (none_around c.args.place c.bounds-bounds.result c.args.tree.now (inl w.if-bounds-place.true) c.bounds-bounds.ensures)
  | then-bounds-place-via-else-bounds-place+then-bounds-place-2 w ↦ sym (none_around c.args.place c.bounds-bounds.result c.args.tree.now (inr w.if-bounds-place-2.true) c.bounds-bounds.ensures)
]

pub returns-in-Some : goal.returns-in-Some
returns-in-Some t c =
    inner_behind c.args.tree.now c.in_ok-parts.parts.left.now (arc_value c.in_ok-parts.parts.report.now) c.deref-report.result.now c.in_ok-parts.parts.right.now c.in_ok-parts.ensures c.deref-report.ensures c.args.place
    c.in-Some.found c.in-Some.ensures

pub returns-in-None : goal.returns-in-None
returns-in-None t c =
    inner_here c.args.tree.now c.in_ok-parts.parts.left.now (arc_value c.in_ok-parts.parts.report.now) c.deref-report.result.now c.in_ok-parts.parts.right.now c.in_ok-parts.ensures c.deref-report.ensures c.args.place
    c.in-None.ensures (sym c.surrounds.ensures ∙ c.if-surrounds.true)

pub returns-in-None-2 : goal.returns-in-None-2
returns-in-None-2 t c =
    inner_before c.args.tree.now c.in_ok-parts.parts.left.now (arc_value c.in_ok-parts.parts.report.now) c.deref-report.result.now c.in_ok-parts.parts.right.now c.in_ok-parts.ensures c.deref-report.ensures c.args.place
    c.innermost-in-None-2.result c.in-None-2.ensures (sym c.surrounds.ensures ∙ c.if-surrounds.false) c.innermost-in-None-2.ensures
