-- A part that is given up is one item more.
use Rattle.std.proofs.Common.{ap}
use Rattle.thread_serve.specs.Contents.{SharedState}
use Rattle.thread_serve.proofs.Turned.{given_up_grows}
use Rattle.thread_serve.proofs.locked.Locked.give_up.Goals as goal

pub returns-clause-adds : goal.returns-clause-adds
returns-clause-adds g c = given_up_grows g.L.Language.lang c.self.inside.session.service c.args.who c.self.inside.session.items
    c.give_up.new.self.items c.args.self.now.log (ap (λ (s : SharedState). s.log) c.self.view_is) c.args.job c.give_up.result
    c.give_up.ensures.given_up
