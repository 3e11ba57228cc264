use Rattle.std.proofs.Common.{◌≡◌}
use Rattle.core_rules.specs.Standing.{has_ended}
use Rattle.document_session.proofs.Inside.{known_outside}
use Rattle.document_session.proofs.session.Session.ended.Goals as goal

pub returns : goal.returns
returns g c = known_outside g.L.Language.lang (λ service s. c.ended.result ≡ has_ended s.events) _ _ _ _ c.self.view_is c.self.invariant.listed
    c.ended.ensures
