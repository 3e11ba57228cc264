use Rattle.std.proofs.Common.{◌≡◌}
use Rattle.core_rules.specs.Ready.{first_ready}
use Rattle.document_session.proofs.Inside.{known_outside}
use Rattle.document_session.proofs.session.Session.first.Goals as goal

pub returns : goal.returns
returns g c =
    let l = g.L.Language.lang in
    known_outside l (λ service s. c.first.result ≡ first_ready l s.events) _ _ _ _ c.self.view_is c.self.invariant.listed c.first.ensures
