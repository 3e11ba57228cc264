use Rattle.std.proofs.Common.{◌≡◌, ◌∷◌, false, ap, sym, subst, ◌∙◌}
use Rattle.prover_core.specs.Looked.{looked}
use Rattle.reply_outbox.specs.declared.item.Item.TheVariants.{Lost}
use Rattle.reply_outbox.specs.Items.{is_lost}
use Rattle.keeping_rules.specs.Items.{writer_of}
use Rattle.keeping_rules.specs.Kept.{session_of}
use Rattle.document_session.specs.Contents.{SessionState}
use Rattle.document_session.proofs.Rooms.{state}
use Rattle.document_session.proofs.session.Session.lose.Goals as goal

pub invariant_of-self : goal.invariant_of-self
invariant_of-self g c =
    let inside = c.self.inside in
    let s = session_of inside.buffer inside.core.past inside.protocol inside.called in
    c.writer_laws.ensures.lost inside.service (state inside.outbox s inside.last inside.held (λ who. looked inside.jobs who)) _ c.self.invariant
    (subst (λ (x : SessionState). is_lost x.items ≡ false) (sym c.self.view_is) c.requires.going)
    (c.lose.ensures.items ∙ ap (λ w. Lost w ∷ inside.outbox.items) c.writer_of.ensures) c.lose.ensures.waiting c.lose.ensures.free

pub returns-clause-items : goal.returns-clause-items
returns-clause-items g c = c.lose.ensures.items ∙ ap (λ w. Lost w ∷ c.self.inside.outbox.items) c.writer_of.ensures
    ∙ ap (λ (x : SessionState). Lost (writer_of x.service) ∷ x.items) c.self.view_is

pub returns-clause-legal : goal.returns-clause-legal
returns-clause-legal g c = (invariant_of-self g c).listed.legal
