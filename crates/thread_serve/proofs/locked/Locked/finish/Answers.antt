-- The part that is ended is one item more.
use Rattle.std.proofs.Common.{ap, subst}
use Rattle.session_rules.specs.Session.{Session}
use Rattle.document_session.specs.keeping_rules_below.Works.{IsDoneWorkOf}
use Rattle.thread_serve.specs.Contents.{SharedState}
use Rattle.thread_serve.proofs.TurnLogs.{session_is}
use Rattle.thread_serve.proofs.Turned.{finished_grows}
use Rattle.thread_serve.proofs.locked.Locked.finish.Goals as goal

pub finish-requires-clause-done : goal.finish-requires-clause-done
finish-requires-clause-done g c = subst (λ (s : Session). IsDoneWorkOf g.L.Language.lang s c.args.who c.args.done)
    (session_is g.L.Language.lang c.self.inside.session.service c.self.inside.session.items c.args.self.now.log
    (ap (λ (s : SharedState). s.log) c.self.view_is) c.self.invariant) c.requires.done

pub returns-clause-adds : goal.returns-clause-adds
returns-clause-adds g c = finished_grows g.L.Language.lang c.self.inside.session.service c.args.who c.self.inside.session.items
    c.finish.new.self.items c.args.self.now.log (ap (λ (s : SharedState). s.log) c.self.view_is) c.args.done.done.part c.finish.result
    c.finish.ensures.finished
