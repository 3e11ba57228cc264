use Rattle.std.specs.Prelude.{IfOk}
use Rattle.prover_core.specs.Results.{AreResults}
use Rattle.document_session.proofs.Inside.{known_outside}
use Rattle.document_session.proofs.session.Session.results.Goals as goal

pub returns : goal.returns
returns g c =
    let l = g.L.Language.lang in
    known_outside l (λ service s. IfOk c.results.result (λ found. AreResults l s.events c.args.version c.args.node.now found)) _ _ _ _
    c.self.view_is c.self.invariant.listed c.results.ensures
