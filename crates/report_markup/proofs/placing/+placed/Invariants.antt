use Rattle.std.proofs.Common.{length}
use Rattle.report_markup.proofs.placing.+placed.Given as goal

abbrev pub decreases-placed : goal.decreases-placed
decreases-placed l = length l.tree.now
