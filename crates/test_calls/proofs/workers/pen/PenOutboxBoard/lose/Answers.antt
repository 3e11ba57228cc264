use Rattle.std.proofs.Common.{refl, rules}
use Rattle.hist_lock.specs.Passes.{view}
use Rattle.test_calls.proofs.BoardBytes.{no_more}
use Rattle.test_calls.proofs.workers.pen.PenOutboxBoard.lose.Goals as goal

pub returns-clause-lost : goal.returns-clause-lost
returns-clause-lost g c =
    ((_, refl, c.say.ensures.made), no_more (λ m. m.by) (λ m. m.byte) (view c.args.pass.now) (view c.say.new.pass) c.args.who _ refl c.requires.who (search rules) c.requires.knows c.say.ensures.knows c.say.ensures.made)
