use Rattle.std.proofs.Common.{sym, ◌∙◌}
use Rattle.report_markup.proofs.SearchLemmas.{no_crossing}
use Rattle.report_markup.proofs.search.crossing.Goals as goal

pub returns-else-may_cross : goal.returns-else-may_cross
returns-else-may_cross c = sym (no_crossing c.args.range c.args.tree.now c.requires (sym c.may_cross.ensures ∙ c.if-may_cross.false))
