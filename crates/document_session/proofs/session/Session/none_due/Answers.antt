use Rattle.std.proofs.Common.{◌≡◌, subst}
use Rattle.session_rules.specs.Steps.{Nothing, due}
use Rattle.keeping_rules.specs.Items.{heard_in}
use Rattle.document_session.specs.Contents.{SessionState}
use Rattle.document_session.proofs.session.Session.none_due.Goals as goal

pub returns : goal.returns
returns g c = subst (λ (x : SessionState). due g.L.Language.lang x.service (heard_in x.service x.items) ≡ Nothing) c.self.view_is c.self.invariant.at_rest
