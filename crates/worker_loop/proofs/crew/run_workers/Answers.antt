-- Whoever has worked is back.
use Rattle.worker_loop.proofs.KnownGathered.{are_back}
use Rattle.worker_loop.proofs.crew.run_workers.Goals as goal

pub returns-in-Ok-clause-back : goal.returns-in-Ok-clause-back
returns-in-Ok-clause-back g c =
    are_back g.W.Work.says c.args.lock.now 1 c.args.passes.items c.work_all.result.items c.requires.workers c.work_all.ensures.worked
