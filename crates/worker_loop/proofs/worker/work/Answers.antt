-- A round follows the rounds before.
use Rattle.std.proofs.Common.{None, rules}
use Rattle.hist_lock.specs.Passes.{view}
use Rattle.worker_loop.specs.Rounds.{GoesOn}
use Rattle.worker_loop.proofs.KnownRounds.{goes_held, goes_then, stopped_then}
use Rattle.worker_loop.proofs.worker.work.Goals as goal

pub returns-in-Some-round-clause-worked : goal.returns-in-Some-round-clause-worked
returns-in-Some-round-clause-worked g c =
    stopped_then g.W.Work.says (view c.args.pass) (view c.rounds.pass) (view c.round.new.pass) None None c.in-Some-round.worked
    c.rounds.invariant.5 c.in-Some-round.ensures.round

pub rounds-preserved : goal.rounds-preserved
rounds-preserved g c =
    let old = c.rounds.invariant in
    let now : GoesOn g.W.Work.says (view c.rounds.pass) None (view c.round.new.pass) None = c.in_default.ensures.round in (
      tt,
      tt,
      search rules,
      search rules,
      goes_held g.W.Work.says (view c.rounds.pass) (view c.round.new.pass) None None old.4 now,
      goes_then g.W.Work.says (view c.args.pass) (view c.rounds.pass) (view c.round.new.pass) None None None old.5 now,
    )
