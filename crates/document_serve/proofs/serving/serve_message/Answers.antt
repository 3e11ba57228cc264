-- The message waits while parts are worked on, until it is answered.
use Rattle.std.proofs.Common.{◌∷◌, [], arith, ap, sym, subst, ◌∙◌}
use Rattle.session_rules.specs.declared.service.Service.{Service}
use Rattle.document_session.specs.keeping_rules_below.Legal.{AreLegal}
use Rattle.message_input.specs.declared.answering.Halt.TheVariants as halt
use Rattle.document_session.specs.Answers.{TakenSo}
use Rattle.document_session.specs.Contents.{SessionState}
use Rattle.document_serve.proofs.Answered.{answer_err, answer_ok}
use Rattle.document_serve.proofs.At.{at_first}
use Rattle.reply_outbox.specs.Items.{entries}
use Rattle.document_serve.specs.Listening.{replies_sent}
use Rattle.document_serve.proofs.HandedBack.{stays_short, part_fails, part_told, fewer_parts, told_still}
use Rattle.document_serve.proofs.HasCome.{answered_so}
use Rattle.document_serve.proofs.Hearing.{all_heard, hears_first, hears_later}
use Rattle.document_serve.proofs.Short.{short}
use Rattle.document_serve.proofs.Stepping.{answered}
use Rattle.message_input.proofs.KnownHalting.{passed, counts_later}
use Rattle.message_input.specs.Counts.{CountsSo}
use Rattle.document_serve.proofs.Stops.{StopsAmong, counts_on, short_before}
use Rattle.document_serve.proofs.Waiting.{may_after}
use Rattle.document_serve.proofs.serving.serve_message.Goals as goal

pub waiting-init : goal.waiting-init
waiting-init g c = (
  at_first g.L.Language.lang (g.K.Sink.contents c.args.sink.now) c.args.session.now c.args.message c.requires,
  omega arith,
  hears_first g.L.Language.lang g.H.Listener.hears c.args.session.now c.args.listener.now (g.met.H.Listener.stays c.args.listener.now),
)

pub returns-in_err-take-clause-err : goal.returns-in_err-take-clause-err
returns-in_err-take-clause-err g c =
    let l = g.L.Language.lang in
    let laws = c.work_laws.ensures in
    let held = g.K.Sink.contents c.args.sink.now in
    let now = g.K.Sink.contents c.waiting.sink in
    let old = c.args.session.now in
    let before = c.waiting.session in
    passed c.from_residual.result halt.NoMemory (λ h. StopsAmong l held now old (c.args.message ∷ []) h c.take.new.self) c.from_residual.ensures.1
    (subst (λ (x : SessionState). StopsAmong l held now old (c.args.message ∷ []) halt.NoMemory x) (sym c.in_err-take.ensures.err)
    (short_before l held now old before c.args.message
    (short l laws laws.asks held now old before c.args.message c.waiting.message c.waiting.invariant.0)))

pub returns-in_err-take-clause-counts : goal.returns-in_err-take-clause-counts
returns-in_err-take-clause-counts g c = passed c.from_residual.result halt.NoMemory
    (λ h. CountsSo h (g.K.Sink.faults c.args.sink.now) (g.K.Sink.faults c.waiting.sink)) c.from_residual.ensures.1 c.waiting.invariant.1

pub work-requires-clause-going : goal.work-requires-clause-going
work-requires-clause-going g c =
    let l = g.L.Language.lang in
    let before = c.waiting.session in
    let so = subst (λ t. TakenSo l before.service c.waiting.message before.items t c.take.new.self.items) c.in-Waits.is c.in_ok-take.ensures.taken in
    (may_after l c.work_laws.ensures before c.take.new.self c.waiting.message c.in-Waits.back c.waiting.invariant.0.going c.take.ensures.service so).going

pub work-requires-clause-idle : goal.work-requires-clause-idle
work-requires-clause-idle g c =
    let l = g.L.Language.lang in
    let before = c.waiting.session in
    let so = subst (λ t. TakenSo l before.service c.waiting.message before.items t c.take.new.self.items) c.in-Waits.is c.in_ok-take.ensures.taken in
    (may_after l c.work_laws.ensures before c.take.new.self c.waiting.message c.in-Waits.back c.waiting.invariant.0.going c.take.ensures.service so).idle

pub work-requires-clause-ready : goal.work-requires-clause-ready
work-requires-clause-ready g c =
    let l = g.L.Language.lang in
    let before = c.waiting.session in
    let so = subst (λ t. TakenSo l before.service c.waiting.message before.items t c.take.new.self.items) c.in-Waits.is c.in_ok-take.ensures.taken in
    (may_after l c.work_laws.ensures before c.take.new.self c.waiting.message c.in-Waits.back c.waiting.invariant.0.going c.take.ensures.service so).ready

pub returns-in_err-work-clause-err : goal.returns-in_err-work-clause-err
returns-in_err-work-clause-err g c =
    let held = g.K.Sink.contents c.args.sink.now in
    let now = g.K.Sink.contents c.waiting.sink in
    let old = c.args.session.now in
    let new = c.work.new.session in
    passed c.from_residual-in_err-work.result halt.NoMemory
    (λ h. StopsAmong g.L.Language.lang held now old (c.args.message ∷ []) h new) c.from_residual-in_err-work.ensures.1
    (short_before g.L.Language.lang held now old new c.args.message
    (stays_short g.L.Language.lang c.work_laws.ensures held now old c.waiting.session c.take.new.self c.args.message c.waiting.message c.in-Waits.back
    c.waiting.invariant.0 c.take.ensures.service _ c.in-Waits.is c.in_ok-take.ensures.taken new c.work.ensures.service c.work.ensures.legal
    c.in_err-work.ensures.err))

pub returns-in_err-work-clause-counts : goal.returns-in_err-work-clause-counts
returns-in_err-work-clause-counts g c = passed c.from_residual-in_err-work.result halt.NoMemory
    (λ h. CountsSo h (g.K.Sink.faults c.args.sink.now) (g.K.Sink.faults c.waiting.sink)) c.from_residual-in_err-work.ensures.1 c.waiting.invariant.1

pub returns-in-Replied-clause-ok : goal.returns-in-Replied-clause-ok
returns-in-Replied-clause-ok g c =
    let l = g.L.Language.lang in
    let laws = c.work_laws.ensures in
    let before = c.waiting.session in
    let at = c.waiting.invariant.0 in
    let s = c.take.new.self in
    let so = subst (λ t. TakenSo l before.service c.waiting.message before.items t s.items) c.in-Replied.is c.in_ok-take.ensures.taken in
    let legal = subst (λ (v : Service). AreLegal l v s.items) c.take.ensures.service c.take.ensures.legal in
    let after = answered l before.service before.items laws.asks c.waiting.message s.items legal (λ xs are. laws.lists.sends before.service xs are)
    at.going.alone at.going.legal so in
    answer_ok l laws.asks (g.K.Sink.contents c.args.sink.now) (g.K.Sink.contents c.waiting.sink) c.args.session.now before c.args.message c.waiting.message at s
    c.write_heard.new.session (g.K.Sink.contents c.write_heard.new.sink) c.take.ensures.service after c.take.ensures.legal c.write_heard.result
    c.write_heard.ensures.written

pub returns-in-Replied-clause-err : goal.returns-in-Replied-clause-err
returns-in-Replied-clause-err g c =
    let l = g.L.Language.lang in
    let laws = c.work_laws.ensures in
    let before = c.waiting.session in
    let at = c.waiting.invariant.0 in
    let s = c.take.new.self in
    let so = subst (λ t. TakenSo l before.service c.waiting.message before.items t s.items) c.in-Replied.is c.in_ok-take.ensures.taken in
    let legal = subst (λ (v : Service). AreLegal l v s.items) c.take.ensures.service c.take.ensures.legal in
    let after = answered l before.service before.items laws.asks c.waiting.message s.items legal (λ xs are. laws.lists.sends before.service xs are)
    at.going.alone at.going.legal so in
    answer_err l laws.asks (g.K.Sink.contents c.args.sink.now) (g.K.Sink.contents c.waiting.sink) c.args.session.now before c.args.message c.waiting.message at s
    c.write_heard.new.session (g.K.Sink.contents c.write_heard.new.sink) c.take.ensures.service after c.take.ensures.legal c.write_heard.result
    c.write_heard.ensures.written

pub returns-in-Replied-clause-answered : goal.returns-in-Replied-clause-answered
returns-in-Replied-clause-answered g c =
    let l = g.L.Language.lang in
    let laws = c.work_laws.ensures in
    let before = c.waiting.session in
    let at = c.waiting.invariant.0 in
    let s = c.take.new.self in
    let so = subst (λ t. TakenSo l before.service c.waiting.message before.items t s.items) c.in-Replied.is c.in_ok-take.ensures.taken in
    let legal = subst (λ (v : Service). AreLegal l v s.items) c.take.ensures.service c.take.ensures.legal in
    let after = answered l before.service before.items laws.asks c.waiting.message s.items legal (λ xs are. laws.lists.sends before.service xs are)
    at.going.alone at.going.legal so in
    answered_so l (g.K.Sink.contents c.waiting.sink) (g.K.Sink.contents c.write_heard.new.sink) (entries c.args.session.now.items) before s c.write_heard.new.session
    c.waiting.message c.args.message at.same at.grown after.done c.write_heard.result c.write_heard.ensures.written

pub returns-in-Replied-clause-heard : goal.returns-in-Replied-clause-heard
returns-in-Replied-clause-heard g c =
    let l = g.L.Language.lang in
    let laws = c.work_laws.ensures in
    let before = c.waiting.session in
    let at = c.waiting.invariant.0 in
    let s = c.take.new.self in
    let so = subst (λ t. TakenSo l before.service c.waiting.message before.items t s.items) c.in-Replied.is c.in_ok-take.ensures.taken in
    let legal = subst (λ (v : Service). AreLegal l v s.items) c.take.ensures.service c.take.ensures.legal in
    let after = answered l before.service before.items laws.asks c.waiting.message s.items legal (λ xs are. laws.lists.sends before.service xs are)
    at.going.alone at.going.legal so in
    all_heard l g.H.Listener.hears g.met.H.Listener.hears_on c.write_heard.result c.args.session.now before s c.write_heard.new.session
    c.args.listener.now c.waiting.listener c.write_heard.new.listener c.waiting.invariant.2
    (ap (λ (v : Service). replies_sent l v s.items) c.take.ensures.service ∙ after.told_is) c.write_heard.ensures.heard

pub returns-in-Replied-clause-counts : goal.returns-in-Replied-clause-counts
returns-in-Replied-clause-counts g c = counts_on c.write_heard.result (g.K.Sink.faults c.args.sink.now) (g.K.Sink.faults c.waiting.sink)
    (g.K.Sink.faults c.write_heard.new.sink) c.waiting.invariant.1 c.write_heard.ensures.cause

pub returns-in_err-write_heard-clause-err : goal.returns-in_err-write_heard-clause-err
returns-in_err-write_heard-clause-err g c =
    let worked = c.in_ok-work.ensures.ok in
    let held = g.K.Sink.contents c.args.sink.now in
    let now = g.K.Sink.contents c.waiting.sink in
    let then = g.K.Sink.contents c.write_heard-in-waiting.new.sink in
    let old = c.args.session.now in
    let new = c.write_heard-in-waiting.new.session in
    passed c.from_residual-in_err-write_heard.result c.in_err-write_heard.field-0.0
    (λ h. StopsAmong g.L.Language.lang held then old (c.args.message ∷ []) h new) c.from_residual-in_err-write_heard.ensures.1
    (part_fails g.L.Language.lang c.work_laws.ensures held now old c.waiting.session c.take.new.self c.args.message c.waiting.message c.in-Waits.back
    c.waiting.invariant.0 c.take.ensures.service _ c.in-Waits.is c.in_ok-take.ensures.taken c.work.new.session new then c.work.ensures.service worked.0 worked.1
    c.work.ensures.legal c.in_err-write_heard.field-0.0 c.in_err-write_heard.ensures.written)

pub returns-in_err-write_heard-clause-counts : goal.returns-in_err-write_heard-clause-counts
returns-in_err-write_heard-clause-counts g c =
    let before = g.K.Sink.faults c.args.sink.now in
    let now = g.K.Sink.faults c.write_heard-in-waiting.new.sink in
    passed c.from_residual-in_err-write_heard.result c.in_err-write_heard.field-0.0 (λ h. CountsSo h before now) c.from_residual-in_err-write_heard.ensures.1
    (counts_later c.in_err-write_heard.field-0.0 before (g.K.Sink.faults c.waiting.sink) now c.waiting.invariant.1 c.in_err-write_heard.ensures.cause)

pub waiting-preserved : goal.waiting-preserved
waiting-preserved g c =
    let worked = c.in_ok-work.ensures.ok in
    let written = c.in_ok-write_heard.ensures.written in
    let next = part_told g.L.Language.lang c.work_laws.ensures (g.K.Sink.contents c.args.sink.now) (g.K.Sink.contents c.waiting.sink) c.args.session.now
    c.waiting.session c.take.new.self c.args.message c.waiting.message c.in-Waits.back c.waiting.invariant.0 c.take.ensures.service _ c.in-Waits.is
    c.in_ok-take.ensures.taken c.work.new.session c.write_heard-in-waiting.new.session (g.K.Sink.contents c.write_heard-in-waiting.new.sink) c.work.ensures.service
    worked.0 worked.1 c.work.ensures.legal written.0 written.1 written.2 written.3 in
    let still = told_still g.L.Language.lang c.work_laws.ensures (g.K.Sink.contents c.args.sink.now) (g.K.Sink.contents c.waiting.sink) c.args.session.now
    c.waiting.session c.take.new.self c.args.message c.waiting.message c.in-Waits.back c.waiting.invariant.0 c.take.ensures.service _ c.in-Waits.is
    c.in_ok-take.ensures.taken c.work.new.session c.write_heard-in-waiting.new.session (g.K.Sink.contents c.write_heard-in-waiting.new.sink) c.work.ensures.service
    worked.0 worked.1 c.work.ensures.legal in (
      next,
      omega (arith, c.waiting.invariant.1, c.write_heard-in-waiting.ensures.steady),
      hears_later g.L.Language.lang g.H.Listener.hears g.met.H.Listener.hears_on c.args.session.now c.waiting.session c.work.new.session
          c.write_heard-in-waiting.new.session c.args.listener.now c.waiting.listener c.write_heard-in-waiting.new.listener c.waiting.invariant.2 still
          c.in_ok-write_heard.ensures.heard,
    )

pub waiting-smaller : goal.waiting-smaller
waiting-smaller g c =
    let worked = c.in_ok-work.ensures.ok in
    let written = c.in_ok-write_heard.ensures.written in
    fewer_parts g.L.Language.lang c.work_laws.ensures (g.K.Sink.contents c.args.sink.now) (g.K.Sink.contents c.waiting.sink) c.args.session.now
    c.waiting.session c.take.new.self c.args.message c.waiting.message c.in-Waits.back c.waiting.invariant.0 c.take.ensures.service _ c.in-Waits.is
    c.in_ok-take.ensures.taken c.work.new.session c.write_heard-in-waiting.new.session (g.K.Sink.contents c.write_heard-in-waiting.new.sink) c.work.ensures.service
    worked.0 worked.1 c.work.ensures.legal written.0
