use Rattle.update_plans.proofs.BegunAre.{adds_none, adds_more}
use Rattle.update_plans.proofs.sources.add_all.Goals as goal

pub imports-init : goal.imports-init
imports-init g c = adds_none c.args.execs.now.rows c.args.inputs.now

pub imports-preserved : goal.imports-preserved
imports-preserved g c =
    adds_more c.args.execs.now.rows c.args.lasts.now c.imports.last-index c.last-item.result c.args.inputs.now _ _
    c.imports-test.true c.last-item.is c.imports.invariant c.in_ok-add_last.ensures
