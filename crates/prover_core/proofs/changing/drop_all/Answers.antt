use Rattle.std.proofs.Common.{None, ◌++◌, ◌∷◌, [], take, ap, sym, ◌∙◌, arith, refl}
use Rattle.std.proofs.lemmas.List.{take_more}
use Rattle.core_tables.specs.Rows.{execution_of}
use Rattle.core_tables.specs.Finish.{after_cancelling}
use Rattle.core_tables.specs.Tasks.{standing}
use Rattle.prover_core.proofs.ChangedAll.{changed_in, changed_more, again_cancelled}
use Rattle.prover_core.proofs.changing.drop_all.Goals as goal

pub executions-preserved : goal.executions-preserved
executions-preserved g c =
    let more = take_more c.args.dropped.now c.executions.exec-index c.exec-item.result c.executions-test.true
    ∙ ap (λ x. take c.executions.exec-index c.args.dropped.now ++ x ∷ []) (sym c.exec-item.is) in
    record {
      rows = λ e. changed_more (λ n o. after_cancelling o) (λ n o. again_cancelled o) (take c.executions.exec-index c.args.dropped.now)
          c.exec-item.result e (λ n. execution_of c.args.execs.now.rows n) (λ n. execution_of c.executions.execs.rows n)
          (λ n. execution_of c.drop_one.new.execs.rows n) c.executions.invariant.rows c.drop_one.ensures.rows
          ∙ ap (λ ds. changed_in (λ n o. after_cancelling o) ds (λ n. execution_of c.args.execs.now.rows n) e) (sym more);
      tasks = λ e. changed_more (λ n o. None) (λ n o. refl) (take c.executions.exec-index c.args.dropped.now)
          c.exec-item.result e (λ n. standing c.args.queue.now n) (λ n. standing c.executions.queue n)
          (λ n. standing c.drop_one.new.queue n) c.executions.invariant.tasks c.drop_one.ensures.tasks
          ∙ ap (λ ds. changed_in (λ n o. None) ds (λ n. standing c.args.queue.now n) e) (sym more);
      executions = c.drop_one.ensures.executions ∙ c.executions.invariant.executions;
      count = omega (arith, c.drop_one.ensures.count, c.executions.invariant.count);
      room = omega (arith, c.drop_one.ensures.room, c.executions.invariant.room);
      links = omega (arith, c.drop_one.ensures.links, c.executions.invariant.links);
    }
