use Rattle.std.proofs.Common.{length}
use Rattle.report_markup.proofs.search.+push_containing.Given as goal

abbrev pub decreases-push_containing : goal.decreases-push_containing
decreases-push_containing l = length l.tree.now
