-- Each item is taken off.
use Rattle.std.proofs.Common.{length}
use Rattle.test_documents.proofs.formats.values.ints.Given as goal

abbrev pub decreases-loop-item : goal.decreases-loop-item
decreases-loop-item l = length l.bodies
