-- What a session keeps once an execution was asked to be cancelled.
use Rattle.std.proofs.Common.{◌≡◌, ℕ, Bool, true, false, List, [], ◌∷◌, map, Option, Ok, Err, refl, sym, ap, subst}
use Rattle.std.specs.Prelude.{if◌then◌else◌}
use Rattle.core_tables.specs.declared.execs.Cancelling.{Cancelling}
use Rattle.core_tables.specs.declared.execs.Cancelling.TheVariants as answer
use Rattle.language.specs.Lang.{Lang}
use Rattle.message_values.specs.declared.editor_message.EditorMessage.TheVariants as asks
use Rattle.message_values.specs.declared.refusal.Refusal.TheVariants.{UnknownExecution}
use Rattle.message_values.specs.Asked.{asked}
use Rattle.reply_messages.specs.declared.told.Told.{Told}
use Rattle.core_rules.specs.declared.event.Event.{Event}
use Rattle.core_rules.specs.declared.event.Event.TheVariants as event
use Rattle.core_rules.specs.Assigned.{is_assigned}
use Rattle.core_rules.specs.Standing.{has_ended}
use Rattle.session_replies.specs.prover_core_below.Answers.{CancelledSo}
use Rattle.reply_outbox.specs.Waiting.{Log}
use Rattle.session_rules.specs.declared.entry.Entry.{Entry}
use Rattle.session_rules.specs.declared.entry.Entry.TheVariants as entry
use Rattle.session_rules.specs.declared.service.Service.{Service}
use Rattle.session_rules.specs.Services.{mode_of}
use Rattle.session_rules.specs.Session.{Session, document, answered, with_event}
use Rattle.session_rules.specs.Accepting.{taken}
use Rattle.session_rules.specs.Replies.{told_to}
use Rattle.session_replies.specs.Spelling.{reply_spelling}
use Rattle.session_replies.specs.Cancelled.{cancelling_told}
use Rattle.session_replies.specs.Works.{Work}
use Rattle.keeping_rules.specs.Kept.{session_of, IsKept}
use Rattle.keeping_rules.proofs.Jobs.{jobs_on}
use Rattle.keeping_rules.proofs.Kept.{WasAdded, answered_as}
use Rattle.keeping_rules.proofs.KnownNothingDue.{nothing_due}

module _ {S : Type 0} (l : Lang S) (service : Service) (old new : Log Service Entry) (s : Session) (last holding : ℕ)
    (jobs : ℕ → Option (Work S)) (k : IsKept l service old s last holding jobs) (message : List (List ℕ)) (exec : ℕ)
    (asks_it : asked (mode_of service) message ≡ Ok (asks.Cancel exec)) (going : has_ended s.events ≡ false) where
  unknown : is_assigned (document l s).live exec ≡ false → answered s (taken l service s (Ok (asks.Cancel exec))) ≡ record s { called = true }
  unknown is = ap (λ (b : Bool). answered s (if b then Ok (with_event s (event.Cancel exec)) else Err UnknownExecution)) is

  known : is_assigned (document l s).live exec ≡ true
      → answered s (taken l service s (Ok (asks.Cancel exec))) ≡ record (with_event s (event.Cancel exec)) { called = true }
  known is = ap (λ (b : Bool). answered s (if b then Ok (with_event s (event.Cancel exec)) else Err UnknownExecution)) is

  unknown_kept : (told : List Told)
      → WasAdded old new (entry.Call message) (map reply_spelling told) holding
      → told_to l service s (Ok (asks.Cancel exec)) ≡ told → is_assigned (document l s).live exec ≡ false
      → IsKept l service new (record s { called = true }) last holding jobs
  unknown_kept told added is none = answered_as l service old new s last holding jobs k message (Ok (asks.Cancel exec)) asks_it
      (map reply_spelling told) (record s { called = true }) last added going tt (ap (λ (ts : List Told). map reply_spelling ts) is) (unknown none)
      (nothing_due (taken l service s (Ok (asks.Cancel exec)))) k.last_is
      (jobs_on l s (record s { called = true }) refl (λ who. refl) (λ e x at. at) service jobs k.jobs_are) refl going k.blobs_are

  known_kept : (told : List Told)
      → WasAdded old new (entry.Call message) (map reply_spelling told) holding
      → told_to l service s (Ok (asks.Cancel exec)) ≡ told → is_assigned (document l s).live exec ≡ true
      → IsKept l service new (record (with_event s (event.Cancel exec)) { called = true }) last holding jobs
  known_kept told added is some =
      let s' : Session = record (with_event s (event.Cancel exec)) { called = true } in
      answered_as l service old new s last holding jobs k message (Ok (asks.Cancel exec)) asks_it
      (map reply_spelling told) s' last added going tt
      (ap (λ (ts : List Told). map reply_spelling ts) is) (known some)
      (nothing_due (taken l service s (Ok (asks.Cancel exec)))) k.last_is
      (jobs_on l s s' refl (λ who. refl) (λ e x at. at) service jobs k.jobs_are) refl going k.blobs_are

  as_after : (past after : List Event) → after ≡ past → IsKept l service new (session_of s.buffer past s.protocol true) last holding jobs
      → IsKept l service new (session_of s.buffer after s.protocol true) last holding jobs
  as_after past after same = subst (λ (h : List Event). IsKept l service new (session_of s.buffer h s.protocol true) last holding jobs) (sym same)

  pub cancelled_kept : (given : Cancelling) (after : List Event) → CancelledSo l exec s.events given after
      → told_to l service s (Ok (asks.Cancel exec)) ≡ cancelling_told exec given ∷ []
      → WasAdded old new (entry.Call message) (reply_spelling (cancelling_told exec given) ∷ [])
      holding
      → IsKept l service new (session_of s.buffer after s.protocol true) last holding jobs
  cancelled_kept answer.Unknown after so told added =
      as_after s.events after so.1 (unknown_kept (cancelling_told exec answer.Unknown ∷ []) added told so.0)
  cancelled_kept answer.Idle after so told added =
      as_after (event.Cancel exec ∷ s.events) after so.2 (known_kept (cancelling_told exec answer.Idle ∷ []) added told so.0)
  cancelled_kept answer.Cancelled after so told added =
      as_after (event.Cancel exec ∷ s.events) after so.2 (known_kept (cancelling_told exec answer.Cancelled ∷ []) added told so.0)
