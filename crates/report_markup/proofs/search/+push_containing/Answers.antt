use Rattle.std.proofs.Common.{inl, inr}
use Rattle.report_markup.proofs.BoundLemmas.{none_added}
use Rattle.report_markup.proofs.search.+push_containing.Goals as goal
use Rattle.report_markup.proofs.search.+push_containing.Goals.{then-bounds-range-via-then-bounds-range, then-bounds-range-via-else-bounds-range+then-bounds-range-2}

pub returns-then-bounds-range : goal.returns-then-bounds-range
returns-then-bounds-range t c = elim c.then-bounds-range.branch [
  | then-bounds-range-via-then-bounds-range w ↦ none_added c.args.range c.bounds-bounds.result c.args.tree.now (inl w.if-bounds-range.true) c.bounds-bounds.ensures _
  | then-bounds-range-via-else-bounds-range+then-bounds-range-2 w ↦ none_added c.args.range c.bounds-bounds.result c.args.tree.now (inr w.if-bounds-range-2.true) c.bounds-bounds.ensures _
]
