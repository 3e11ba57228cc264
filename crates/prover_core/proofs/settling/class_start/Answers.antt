use Rattle.core_tables.specs.Tasks.{standing}
use Rattle.prover_core.proofs.OldestReady.{oldest}
use Rattle.prover_core.proofs.settling.class_start.Goals as goal

pub returns-clause-oldest : goal.returns-clause-oldest
returns-clause-oldest c = oldest (standing c.args.queue.now) c.args.parts.now c.requires.order c.halves.high c.args.place
    c.requires.place c.halves.invariant.alike
