use Rattle.std.proofs.Common.{length}
use Rattle.report_markup.proofs.search.+innermost.Given as goal

abbrev pub decreases-innermost : goal.decreases-innermost
decreases-innermost l = length l.tree.now
