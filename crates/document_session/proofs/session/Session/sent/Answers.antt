use Rattle.std.proofs.Common.{ap, subst, ◌∙◌}
use Rattle.prover_core.specs.Looked.{looked}
use Rattle.reply_outbox.specs.Waiting.{IsSent}
use Rattle.keeping_rules.specs.Items.{heard_in, writer_of}
use Rattle.keeping_rules.specs.Pieces.{pieces, AreWaiting}
use Rattle.keeping_rules.specs.Kept.{session_of, IsKept}
use Rattle.document_session.specs.Contents.{SessionState}
use Rattle.document_session.proofs.Rooms.{state}
use Rattle.document_session.proofs.SentTold.{sent_or_still, sent_told}
use Rattle.document_session.proofs.session.Session.sent.Goals as goal

pub invariant_of-self : goal.invariant_of-self
invariant_of-self g c =
    let l = g.L.Language.lang in
    let inside = c.self.inside in
    let s = session_of inside.buffer inside.core.past inside.protocol inside.called in
    sent_or_still (λ log. IsKept l inside.service log s inside.last inside.held (λ who. looked inside.jobs who)) (λ bytes. bytes.items) c.sent.result
    _ _ _ (λ bytes so. c.writer_laws.ensures.sent inside.service (state inside.outbox s inside.last inside.held (λ who. looked inside.jobs who)) bytes _
    c.self.invariant (subst (λ w. IsSent w bytes inside.outbox c.sent.new.self) c.writer_of.ensures so) c.sent.ensures.free)
    c.self.invariant c.sent.ensures.some c.sent.ensures.none

pub returns-clause-some : goal.returns-clause-some
returns-clause-some g c = sent_told (λ bytes. bytes.items) c.sent.result _ c.self.inside.outbox c.sent.new.self c.args.self.now
    (c.writer_of.ensures ∙ ap (λ (x : SessionState). writer_of x.service) c.self.view_is)
    (ap (λ (x : SessionState). x.items) c.self.view_is) (ap (λ (x : SessionState). x.waiting) c.self.view_is) c.sent.ensures.some

pub returns-clause-legal : goal.returns-clause-legal
returns-clause-legal g c = (invariant_of-self g c).listed.legal

pub returns-clause-waits : goal.returns-clause-waits
returns-clause-waits g c = subst (λ (x : SessionState). AreWaiting (pieces g.L.Language.lang x.service (heard_in x.service x.items)) x.items x.waiting)
    c.self.view_is c.self.invariant.listed.waits
