use Rattle.std.proofs.Common.{◌≡◌, refl}
use Rattle.document_session.proofs.Inside.{known_outside}
use Rattle.document_session.proofs.session.Session.protocol.Goals as goal

pub returns : goal.returns
returns g c = known_outside g.L.Language.lang (λ service s. c.self.inside.protocol ≡ s.protocol) _ _ _ _ c.self.view_is c.self.invariant.listed refl
