use Rattle.std.proofs.Common.{◌+◌, ◌*◌}
use Rattle.proof_checks.proofs.proving.+proved.Given as goal

abbrev pub decreases-taken : goal.decreases-taken
decreases-taken g l = 4 * l.left

abbrev pub decreases-proved : goal.decreases-proved
decreases-proved g l = 4 * l.left + 1

abbrev pub decreases-premise : goal.decreases-premise
decreases-premise g l = 4 * l.left + 2

abbrev pub decreases-two : goal.decreases-two
decreases-two g l = 4 * l.left + 3

abbrev pub decreases-three : goal.decreases-three
decreases-three g l = 4 * l.left + 3
