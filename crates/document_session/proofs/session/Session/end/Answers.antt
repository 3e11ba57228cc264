use Rattle.std.proofs.Common.{List, sym, subst}
use Rattle.core_rules.specs.declared.event.Event.{Event}
use Rattle.prover_core.specs.Looked.{looked}
use Rattle.keeping_rules.specs.Kept.{session_of, IsKept}
use Rattle.document_session.proofs.Inside.{going_on}
use Rattle.document_session.proofs.Rooms.{state_kept}
use Rattle.document_session.proofs.session.Session.end.Goals as goal

pub end-requires : goal.end-requires
end-requires g c = record { going = going_on g.L.Language.lang _ _ _ _ c.self.view_is c.self.invariant.listed c.requires.going }

pub invariant_of-self : goal.invariant_of-self
invariant_of-self g c =
    let l = g.L.Language.lang in
    let k = c.self.invariant in
    subst (λ (past : List Event). IsKept l c.self.inside.service c.add.new.self (session_of c.self.inside.buffer past c.self.inside.protocol c.self.inside.called)
    c.self.inside.last c.self.inside.held (λ who. looked c.self.inside.jobs who)) (sym c.end.ensures.past)
    (c.writer_laws.ensures.ended c.self.inside.service (state_kept k) _ k
    (going_on l _ _ _ _ c.self.view_is k.listed c.requires.going) c.add.ensures.items c.add.ensures.waiting c.add.ensures.free)
