use Rattle.std.proofs.Common.{◌*◌, ◌-◌}
use Rattle.test_calls.proofs.turns.+crew+fn-crew-join+arg2.Given as goal

abbrev pub decreases-crew : goal.decreases-crew
decreases-crew g l = 2 * l.more

abbrev pub decreases-join+arg2 : goal.decreases-join+arg2
decreases-join+arg2 g l = 2 * l.more - 1
