-- The message takes no part from the worker.
use Rattle.test_calls.proofs.StillHeld.{still_holds}
use Rattle.test_calls.proofs.steps.told.Goals as goal

pub returns-clause-holds : goal.returns-clause-holds
returns-clause-holds g c =
    let s = c.args.session.now in
    still_holds g.L.Language.lang c.a_message_is_asked_where_it_is_spelled.ensures 1 s.items c.args.message 1 s.service c.take.new.self.service
    c.take.new.self.items _ c.requires.worker c.take.ensures.service c.in_ok-take.ensures.taken
