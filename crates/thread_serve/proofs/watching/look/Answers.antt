-- Whether all has ended is told by the list that was seen.
use Rattle.hist_lock.specs.Passes.{view}
use Rattle.thread_serve.proofs.Turns.{looked}
use Rattle.thread_serve.proofs.watching.look.Goals as goal

pub returns-clause-looked : goal.returns-clause-looked
returns-clause-looked g c =
    looked g.L.Language.lang c.reader_law.ensures.ended (view c.args.pass.now) c.turn.result (view c.turn.new.pass) c.turn.ensures.turned
