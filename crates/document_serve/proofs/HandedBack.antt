-- A message was handed back, and a part is worked on for it.
use Rattle.std.proofs.Common.{◌≡◌, ℕ, ◌+◌, ◌-◌, ◌<◌, false, List, [], ◌∷◌, Option, Err, ap, subst, ◌∙◌}
use Rattle.pide_base.specs.declared.part.Part.{Part}
use Rattle.language.specs.Lang.{Lang}
use Rattle.core_rules.specs.declared.event.Event.{Event}
use Rattle.reply_outbox.specs.declared.item.Item.TheVariants.{Made}
use Rattle.reply_outbox.specs.Items.{is_lost}
use Rattle.session_rules.specs.declared.entry.Entry.TheVariants as entry
use Rattle.session_rules.specs.declared.service.Service.{Service}
use Rattle.document_session.specs.keeping_rules_below.Legal.{AreLegal}
use Rattle.session_rules.proofs.KnownResting.{fewer_left, finishes, made}
use Rattle.document_session.specs.declared.taking.Taken.{Taken}
use Rattle.document_session.specs.declared.taking.Taken.TheVariants as taken
use Rattle.document_session.specs.Answers.{IsWaiting, TakenSo}
use Rattle.document_session.specs.Contents.{SessionState}
use Rattle.message_input.specs.declared.answering.Halt.{Halt}
use Rattle.message_input.specs.declared.answering.Halt.TheVariants as halt
use Rattle.document_serve.specs.Laws.{WorkLaws}
use Rattle.document_serve.specs.Listening.{replies_sent}
use Rattle.document_serve.specs.Runs.{IsSame, RunsShort, WrittenSo}
use Rattle.document_serve.specs.Served.{AllSent, WritesOn}
use Rattle.document_serve.specs.Steps.{IsLeftOff}
use Rattle.document_serve.proofs.At.{IsAt, at_waits, events_of, same_events}
use Rattle.document_serve.proofs.OneMore.{at_next, next_events, work_fails}
use Rattle.document_serve.proofs.Short.{work_short}
use Rattle.document_serve.proofs.Stops.{StopsAmong, fails_before}
use Rattle.document_serve.proofs.Waiting.{may_after, worked_told}

module _ {S : Type 0} (l : Lang S) (laws : WorkLaws l) (held now : Option (List ℕ)) (old before s : SessionState) (came message back : List (List ℕ))
    (at : IsAt l held now old before came message) (service : s.service ≡ before.service) (t : Taken) (is : t ≡ taken.Waits back)
    (told : TakenSo l before.service message before.items t s.items) where
  so : TakenSo l before.service message before.items (taken.Waits back) s.items
  so = subst (λ (x : Taken). TakenSo l before.service message before.items x s.items) is told

  waits : IsAt l held now old s came back × IsWaiting l s.service s.items back
  waits = at_waits l held now old before s came message back at service so

  -- memory is short
  pub stays_short : (new : SessionState) → new.service ≡ s.service → AreLegal l new.service new.items → IsLeftOff s.items new.items
      → RunsShort l held now old new [] (came ∷ [])
  stays_short new same legal left = work_short l laws laws.asks held now old s came back waits.0 waits.1 new same legal left

  module _ (mid new : SessionState) (then : Option (List ℕ)) (same : mid.service ≡ s.service) (part : Part)
      (items : mid.items ≡ Made (entry.Finished 0 part) ∷ Made (entry.Claimed 0 part) ∷ s.items) (legal : AreLegal l mid.service mid.items) where
    -- no reply more is sent
    pub told_still : replies_sent l mid.service mid.items ≡ replies_sent l before.service before.items
    told_still = worked_told l laws laws.asks s back waits.0.going waits.1 mid part same items legal
        ∙ ap (λ (v : Service). replies_sent l v s.items) service ∙ ap (replies_sent l before.service) so.1

    -- the sink fails
    pub part_fails : (h : Halt) → WrittenSo l now then mid new (Err h) → StopsAmong l held then old (came ∷ []) h new
    part_fails halt.WriteFault w = fails_before l held then old new came
        (work_fails l laws laws.asks held now old s came back waits.0 mid new then same w.0 waits.1 part items legal w.1 w.2 w.3)
    part_fails halt.NoMemory w = absurd (w)
    part_fails (halt.BadReply len) w = absurd (w)

    module _ (written : IsSame l mid new) where
      -- what the part told is written, and the message waits
      pub part_told : is_lost new.items ≡ false → AllSent l new.service new.items → WritesOn l now then mid new → IsAt l held then old new came back
      part_told = at_next l laws laws.asks held now old s came back waits.0 mid new then same written waits.1 part items legal

      -- a part less is left
      pub fewer_parts : (finishes (events_of l old) + made l (events_of l old)) - finishes (events_of l new)
          < (finishes (events_of l old) + made l (events_of l old)) - finishes (events_of l before)
      fewer_parts =
          let from = events_of l old in
          let next = next_events l laws laws.asks held now old s came back waits.0 mid new then same written waits.1 part items legal in
          let less = fewer_left l from (laws.ends from) waits.0.steps (events_of l s) (events_of l new) part waits.0.works
          (may_after l laws before s message back at.going service so).ready next in
          subst (λ (k : List Event). (finishes from + made l from) - finishes (events_of l new) < (finishes from + made l from) - finishes k)
          (same_events l before s service so.1) less
