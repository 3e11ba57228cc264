use Rattle.std.proofs.Common.{length}
use Rattle.report_markup.proofs.search.+first_crossing.Given as goal

abbrev pub decreases-first_crossing : goal.decreases-first_crossing
decreases-first_crossing l = length l.tree.now
