use Rattle.std.proofs.Common.{rules, ◌≡◌, false, sym, ◌∙◌}
use Rattle.pide_base.specs.declared.part.Part.{Part}
use Rattle.prover_core.specs.declared.settling.Settled.TheVariants as answer
use Rattle.session_rules.specs.Services.{is_held_by_script}
use Rattle.keeping_rules.specs.Kept.{session_of}
use Rattle.document_session.specs.Looks.{SettlesSo}
use Rattle.document_session.specs.declared.looking.Settling.TheVariants as settling
use Rattle.document_session.proofs.Inside.{known_inside, known_outside}
use Rattle.document_session.proofs.Settles.{left_so}
use Rattle.document_session.proofs.session.Session.settling.Goals as goal

pub returns-in-Left-clause-settles : goal.returns-in-Left-clause-settles
returns-in-Left-clause-settles g c =
    let l = g.L.Language.lang in
    let inside = c.self.inside in
    let k = c.self.invariant.listed in
    let s = session_of inside.buffer inside.core.past inside.protocol inside.called in
    let is : (part : Part) × (c.in_ok-settled.field-0 ≡ answer.Left part) = search rules in
    let free : is_held_by_script inside.service s.events ≡ false = known_inside l (λ service t. is_held_by_script service t.events ≡ false) _ _ _ s
    c.self.view_is k (sym c.is_held_by_script.ensures ∙ c.if-is_held_by_script.false) in
    known_outside l (λ service t. SettlesSo l service t c.args.version settling.Waits) _ _ _ s c.self.view_is k
    (left_so l inside.service s c.args.version c.in_ok-settled.field-0 c.in_ok-settled.ensures.settled is.0 is.1 free)
