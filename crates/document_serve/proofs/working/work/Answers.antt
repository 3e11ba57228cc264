-- The first ready part is taken, and worked on.
use Rattle.std.proofs.Common.{◌≡◌, true, sym, subst}
use Rattle.session_rules.specs.declared.service.Service.{Service}
use Rattle.core_rules.specs.Ready.{is_wanted}
use Rattle.session_rules.specs.Session.{document}
use Rattle.document_session.specs.keeping_rules_below.Items.{session_in}
use Rattle.document_session.specs.keeping_rules_below.Legal.{AreLegal}
use Rattle.document_session.specs.keeping_rules_below.Works.{IsWorkOf}
use Rattle.document_session.specs.Answers.{ClaimedSo}
use Rattle.document_serve.proofs.Worked.{claimed_wanted, never_idle}
use Rattle.document_serve.proofs.working.work.Goals as goal

pub work_on-requires-clause-holds : goal.work_on-requires-clause-holds
work_on-requires-clause-holds g c =
    let l = g.L.Language.lang in
    let s = c.args.session.now in
    let so = subst (λ r. ClaimedSo l s.service 0 s.items r c.claim.new.self.items) c.in-Job.is c.claim.ensures.claimed in
    subst (λ (v : Service). IsWorkOf l (session_in l v c.claim.new.self.items) 0 c.in-Job.job) (sym c.claim.ensures.service) so.1

pub work_on-requires-clause-wanted : goal.work_on-requires-clause-wanted
work_on-requires-clause-wanted g c =
    let l = g.L.Language.lang in
    let s = c.args.session.now in
    let so = subst (λ r. ClaimedSo l s.service 0 s.items r c.claim.new.self.items) c.in-Job.is c.claim.ensures.claimed in
    let legal = subst (λ (v : Service). AreLegal l v c.claim.new.self.items) c.claim.ensures.service c.claim.ensures.legal in
    subst (λ (v : Service). is_wanted (document l (session_in l v c.claim.new.self.items)) c.in-Job.job.job.part.exec ≡ true) (sym c.claim.ensures.service)
    (claimed_wanted l s.service c.in-Job.job.job.part s.items c.claim.new.self.items so.0 legal)

pub unreachable-requires : goal.unreachable-requires
unreachable-requires g c =
    let l = g.L.Language.lang in
    let s = c.args.session.now in
    let so = subst (λ r. ClaimedSo l s.service 0 s.items r c.claim.new.self.items) c.in-Nothing.is c.claim.ensures.claimed in
    never_idle l s.service (session_in l s.service s.items) (record { going = c.requires.going; idle = c.requires.idle; ready = c.requires.ready }) so.1
