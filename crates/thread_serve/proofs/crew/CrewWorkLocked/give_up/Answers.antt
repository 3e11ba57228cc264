-- The part was dropped, or the job goes on.
use Rattle.std.proofs.Common.{sym, ◌∙◌}
use Rattle.hist_lock.specs.Passes.{view}
use Rattle.thread_serve.proofs.Lists.{its_own}
use Rattle.thread_serve.proofs.Ended.{given_up, gives_up_own, goes_on, holds_still, is_worker}
use Rattle.thread_serve.proofs.crew.CrewWorkLocked.give_up.Goals as goal

pub turn-requires-clause-may : goal.turn-requires-clause-may
turn-requires-clause-may g c =
    let l = g.L.Language.lang in let who = c.args.who in let part = c.args.job.job.part in
    let v = view c.args.pass.now in let is = c.requires.who in let holds = c.requires.holds in record {
      asked = λ x fits. (
        is_worker l v who is part holds c.holders_law.ensures.free x fits,
        holds_still l v who is part holds c.holders_law.ensures.held x fits,
      );
      its_own = λ x y a e fits so grown. its_own who x.log y.log e (gives_up_own l who c.args.job x y a so) grown ∙ sym is;
    }

pub returns-in-Dropped-clause-given_up : goal.returns-in-Dropped-clause-given_up
returns-in-Dropped-clause-given_up g c =
    given_up g.L.Language.lang c.args.who c.args.job (view c.args.pass.now) (view c.turn.new.pass) c.in-Dropped.ensures.turned

pub returns-in-GoOn-clause-given_up : goal.returns-in-GoOn-clause-given_up
returns-in-GoOn-clause-given_up g c =
    goes_on g.L.Language.lang c.args.who c.args.job (view c.args.pass.now) (view c.turn.new.pass) c.in-GoOn.job c.in-GoOn.ensures.turned
