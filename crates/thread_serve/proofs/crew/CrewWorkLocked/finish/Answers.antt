-- The part that the caller holds is finished, or let go.
use Rattle.std.proofs.Common.{sym, ◌∙◌}
use Rattle.hist_lock.specs.Passes.{view}
use Rattle.thread_serve.proofs.Lists.{its_own}
use Rattle.thread_serve.proofs.Ended.{done_right, dropped, finished, finishes_own, holds_still, is_worker}
use Rattle.thread_serve.proofs.crew.CrewWorkLocked.finish.Goals as goal

pub turn-requires-clause-may : goal.turn-requires-clause-may
turn-requires-clause-may g c =
    let l = g.L.Language.lang in let who = c.args.who in let done = c.args.done in let part = done.done.part in
    let v = view c.args.pass.now in let is = c.requires.who in let holds = c.requires.holds in record {
      asked = λ x fits. (
        is_worker l v who is part holds c.holders_law.ensures.free x fits,
        done_right l x who done (holds_still l v who is part holds c.holders_law.ensures.held x fits)
            (c.requires.right x.log fits.seen fits.is_legal),
      );
      its_own = λ x y a e fits so grown. its_own who x.log y.log e (finishes_own l who part x y a so) grown ∙ sym is;
    }

pub returns-in-Finished-clause-finished : goal.returns-in-Finished-clause-finished
returns-in-Finished-clause-finished g c =
    finished g.L.Language.lang c.args.who c.args.done.done.part (view c.args.pass.now) (view c.turn.new.pass) c.in-Finished.ensures.turned

pub returns-in-Dropped-clause-finished : goal.returns-in-Dropped-clause-finished
returns-in-Dropped-clause-finished g c =
    dropped g.L.Language.lang c.args.who c.args.done.done.part (view c.args.pass.now) (view c.turn.new.pass) c.in-Dropped.ensures.turned
