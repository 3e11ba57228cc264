use Rattle.std.proofs.Common.{◌+◌, ◌*◌, vec_len}
use Rattle.worker_loop.proofs.crew.+fn-work_all-join+arg2+work_all.Given as goal

abbrev pub decreases-work_all : goal.decreases-work_all
decreases-work_all g l = 2 * vec_len l.passes

abbrev pub decreases-join+arg2 : goal.decreases-join+arg2
decreases-join+arg2 g l = 2 * vec_len l.passes + 1
