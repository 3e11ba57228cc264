-- A message that is answered is one call more, as no message calls for a step.
use Rattle.std.proofs.Common.{ap, sym, ◌∙◌}
use Rattle.core_rules.specs.Standing.{has_ended}
use Rattle.session_rules.specs.Session.{Session}
use Rattle.thread_serve.specs.Contents.{SharedState}
use Rattle.thread_serve.proofs.TurnLogs.{session_is}
use Rattle.thread_serve.proofs.Replied.{answered, answered_grows}
use Rattle.thread_serve.proofs.locked.Locked.answer.Goals as goal

pub take-requires : goal.take-requires
take-requires g c = record {
  going = ap (λ (s : Session). has_ended s.events) (sym (session_is g.L.Language.lang c.self.inside.session.service
      c.self.inside.session.items c.args.self.now.log (ap (λ (s : SharedState). s.log) c.self.view_is) c.self.invariant)) ∙ c.requires.going;
}

pub returns-clause-taken : goal.returns-clause-taken
returns-clause-taken g c = answered g.L.Language.lang c.list_law.ensures.nothing_due c.args.message c.self.inside.session c.take.new.self
    c.args.self.now.log (ap (λ (s : SharedState). s.log) c.self.view_is) c.self.invariant c.take.result c.take.ensures.taken

pub returns-clause-adds : goal.returns-clause-adds
returns-clause-adds g c = answered_grows g.L.Language.lang c.list_law.ensures.nothing_due c.args.message c.self.inside.session c.take.new.self
    c.args.self.now.log (ap (λ (s : SharedState). s.log) c.self.view_is) c.self.invariant c.take.result c.take.ensures.taken c.take.ensures.err
