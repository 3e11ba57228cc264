-- A part that is claimed is one item more.
use Rattle.std.proofs.Common.{ap}
use Rattle.document_session.specs.Answers.{ClaimedSo}
use Rattle.thread_serve.specs.Contents.{SharedState}
use Rattle.thread_serve.proofs.TurnLogs.{on_log}
use Rattle.thread_serve.proofs.Turned.{claimed_grows}
use Rattle.thread_serve.proofs.locked.Locked.try_claim.Goals as goal

pub returns-clause-claimed : goal.returns-clause-claimed
returns-clause-claimed g c = on_log (λ s old new. ClaimedSo g.L.Language.lang s c.args.who old c.claim.result new) c.self.inside.session.service
    c.self.inside.session.items c.claim.new.self.items c.args.self.now.log (ap (λ (s : SharedState). s.log) c.self.view_is) c.self.invariant c.claim.ensures.claimed

pub returns-clause-adds : goal.returns-clause-adds
returns-clause-adds g c = claimed_grows g.L.Language.lang c.self.inside.session.service c.args.who c.self.inside.session.items
    c.claim.new.self.items c.args.self.now.log (ap (λ (s : SharedState). s.log) c.self.view_is) c.claim.result c.claim.ensures.claimed
