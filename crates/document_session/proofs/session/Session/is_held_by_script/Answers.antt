use Rattle.std.proofs.Common.{◌≡◌, not}
use Rattle.session_rules.specs.Services.{is_held_by_script}
use Rattle.document_session.proofs.Inside.{known_outside}
use Rattle.document_session.proofs.Scripted.{held_by_script}
use Rattle.document_session.proofs.session.Session.is_held_by_script.Goals as goal

pub returns : goal.returns
returns g c =
    let l = g.L.Language.lang in
    known_outside l (λ service s. not c.is_empty.result ≡ is_held_by_script service s.events) _ _ _ _ c.self.view_is c.self.invariant.listed
    (held_by_script l _ c.self.inside.jobs.entries c.self.inside.service c.self.invariant.jobs_are c.is_empty.result c.is_empty.ensures)
