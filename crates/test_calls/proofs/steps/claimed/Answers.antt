-- The worker holds the part that it takes.
use Rattle.std.proofs.Common.{sym, subst}
use Rattle.session_rules.specs.declared.service.Service.{Service}
use Rattle.document_session.specs.keeping_rules_below.Items.{session_in}
use Rattle.document_session.specs.keeping_rules_below.Works.{IsWorkOf}
use Rattle.document_session.specs.Answers.{ClaimedSo}
use Rattle.test_calls.proofs.steps.claimed.Goals as goal

pub returns-in-Job-clause-job : goal.returns-in-Job-clause-job
returns-in-Job-clause-job g c =
    let l = g.L.Language.lang in
    let s = c.args.session.now in
    let so = subst (λ r. ClaimedSo l s.service 1 s.items r c.claim.new.self.items) c.in-Job.is c.claim.ensures.claimed in
    subst (λ (v : Service). IsWorkOf l (session_in l v c.claim.new.self.items) 1 c.in-Job.job) (sym c.claim.ensures.service) so.1
