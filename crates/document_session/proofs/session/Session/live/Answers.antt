use Rattle.std.proofs.Common.{◌≡◌}
use Rattle.session_rules.specs.Session.{document}
use Rattle.document_session.proofs.Inside.{known_outside}
use Rattle.document_session.proofs.session.Session.live.Goals as goal

pub returns : goal.returns
returns g c =
    let l = g.L.Language.lang in
    known_outside l (λ service s. c.live.result.now ≡ (document l s).live) _ _ _ _ c.self.view_is c.self.invariant.listed c.live.ensures
