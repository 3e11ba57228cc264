-- Each reply is written in turn.
use Rattle.std.proofs.Common.{[], ◌∷◌, List, ℕ, refl, subst, arith}
use Rattle.document_serve.proofs.Hearing.{hears_first, hears_next}
use Rattle.document_serve.proofs.Wrote.{Waits, lost_last, lost_same, lost_some, lost_written, next_written, same_first}
use Rattle.std.specs.Io.KnownBytes.{Appends}
use Rattle.pide_base.specs.Moves.{AppendsFront}
use Rattle.document_serve.proofs.writing.write_heard.Goals as goal

pub sending-init : goal.sending-init
sending-init g c = (
  record { same = same_first g.L.Language.lang c.args.session.now c.requires.legal; kept = c.requires.kept; writes = λ first w. w },
  omega arith,
  hears_first g.L.Language.lang g.H.Listener.hears c.args.session.now c.args.listener.now (g.met.H.Listener.stays c.args.listener.now),
)

pub returns-then-not-push_whole-clause-written : goal.returns-then-not-push_whole-clause-written
returns-then-not-push_whole-clause-written g c =
    let l = g.L.Language.lang in
    let goes = c.sending.invariant.0 in
    let some = c.in-Some.ensures.some in
    let waits : Waits l c.sending.session (c.in-Some.bytes.items ∷ c.sent.new.self.waiting) = subst (Waits l c.sending.session) some.0 c.in-Some.ensures.waits in
    let failed = subst (AppendsFront _ _) c.deref-in-Some.ensures.value c.push_whole.ensures.failed in (
      lost_same l _ _ _ c.sending.session goes c.sent.new.self c.in-Some.bytes.items c.sent.ensures.service some.1 waits
          c.lose.new.self c.lose.ensures.service c.lose.ensures.items c.lose.ensures.legal,
      lost_written l _ _ _ c.sending.session goes c.sent.new.self c.in-Some.bytes.items c.sent.ensures.service some.1 waits
          c.lose.new.self c.lose.ensures.service c.lose.ensures.items c.lose.ensures.legal _ c.list_laws.ensures.join failed,
      lost_some l _ _ _ c.sending.session goes c.sent.new.self c.in-Some.bytes.items c.sent.ensures.service some.1 waits
          c.lose.new.self c.lose.ensures.service c.lose.ensures.items c.lose.ensures.legal _ failed,
      lost_last l _ _ _ c.sending.session goes c.sent.new.self c.in-Some.bytes.items c.sent.ensures.service some.1 waits
          c.lose.new.self c.lose.ensures.service c.lose.ensures.items c.lose.ensures.legal,
    )

pub sending-preserved : goal.sending-preserved
sending-preserved g c =
    let l = g.L.Language.lang in
    let goes = c.sending.invariant.0 in
    let some = c.in-Some.ensures.some in
    let waits : Waits l c.sending.session (c.in-Some.bytes.items ∷ c.sent.new.self.waiting) = subst (Waits l c.sending.session) some.0 c.in-Some.ensures.waits in
    let pushed = subst (Appends (g.K.Sink.contents c.sending.sink) (g.K.Sink.contents c.push_whole.new.sink)) c.deref-in-Some.ensures.value
    (c.if-not-push_whole.ensures.pushed refl) in (
      next_written l (g.K.Sink.contents c.args.sink.now) (g.K.Sink.contents c.sending.sink) c.args.session.now c.sending.session goes c.sent.new.self
          c.in-Some.bytes.items c.sent.ensures.service some.1 waits (g.K.Sink.contents c.push_whole.new.sink) c.sent.ensures.legal pushed,
      omega (arith, c.sending.invariant.1, c.push_whole.ensures.steady),
      hears_next l g.H.Listener.hears g.met.H.Listener.hears_on c.args.session.now c.sending.session c.sent.new.self c.args.listener.now c.sending.listener
          c.hear.new.self c.in-Some.bytes.items c.sending.invariant.2 c.sent.ensures.service some.1 waits
          (subst (λ (bytes : List ℕ). g.H.Listener.hears c.sending.listener (bytes ∷ []) c.hear.new.self) c.deref.ensures.value c.hear.ensures),
    )
