-- What messages leave of a session's state (this project's own).
use Rattle.std.specs.Prelude.{◌≡◌, ℕ, ◌<◌, ◌≤◌, true, false, List, [], ◌∷◌, length, Ok, Err}
use Rattle.pide_base.specs.Ids.{id_end}
use Rattle.core_tables.specs.declared.versions.Removing.TheVariants as answer
use Rattle.core_tables.specs.Removal.{removing}
use Rattle.core_tables.specs.declared.execs.Cancelling.{Cancelling}
use Rattle.language.specs.Lang.{Lang}
use Rattle.message_values.specs.declared.editor_message.EditorMessage.TheVariants as asks
use Rattle.message_values.specs.declared.protocol.Protocol.{Protocol}
use Rattle.message_values.specs.declared.refusal.Refusal.{Refusal}
use Rattle.message_values.specs.Asked.{asked}
use Rattle.buffer_rules.specs.Updates.{Asked}
use Rattle.buffer_rules.specs.Preparing.{Buffer, prepared}
use Rattle.reply_messages.specs.declared.told.Told.TheVariants as tells
use Rattle.core_rules.specs.declared.event.Event.{Event}
use Rattle.core_rules.specs.declared.event.Event.TheVariants as event
use Rattle.core_rules.specs.Doc.{assignment_of}
use Rattle.session_replies.specs.prover_core_below.Answers.{CancelledSo}
use Rattle.reply_outbox.specs.Waiting.{Log}
use Rattle.session_rules.specs.declared.entry.Entry.{Entry}
use Rattle.session_rules.specs.declared.entry.Entry.TheVariants.{Call}
use Rattle.session_rules.specs.declared.service.Service.{Service}
use Rattle.session_rules.specs.Services.{mode_of}
use Rattle.session_rules.specs.Session.{document}
use Rattle.session_rules.specs.Accepting.{taken}
use Rattle.session_rules.specs.Updating.{with_buffer}
use Rattle.session_rules.specs.Replies.{live_among, rows_told}
use Rattle.session_replies.specs.Spelling.{reply_spelling}
use Rattle.session_replies.specs.Cancelled.{cancelling_told}
use Rattle.keeping_rules.specs.Kept.{session_of}
use Rattle.keeping_rules.specs.Looks.{IsLook}
use Rattle.keeping_rules.specs.States.{State, IsSound, IsAdded, moved, heard_with}

-- a message that is refused, or that only looks, leaves a sound state with its reply
pub record LookLaws {S : Type 0} (l : Lang S) : Type 0 where
  pub refused : (service : Service) (st : State S) (message : List (List ℕ)) (reason : Refusal)
      (new : Log Service Entry)
      → IsAdded l service st (Call message) (reply_spelling (tells.Refused reason) ∷ []) new
      → taken l service st.session (asked (mode_of service) message) ≡ Err reason
      → IsSound l service (moved st new (record st.session { called = true }))
  pub looked : (service : Service) (st : State S) (message : List (List ℕ)) (bytes : List ℕ)
      (new : Log Service Entry) → IsAdded l service st (Call message) (bytes ∷ []) new
      → IsLook l service st.session (asked (mode_of service) message) bytes
      → IsSound l service (moved st new (record st.session { called = true }))

-- so does one that changes the document or the protocol
pub record ChangeLaws {S : Type 0} (l : Lang S) : Type 0 where
  pub cancelled : (service : Service) (st : State S) (message : List (List ℕ)) (exec : ℕ)
      (given : Cancelling) (past : List Event) (new : Log Service Entry)
      → IsAdded l service st (Call message) (reply_spelling (cancelling_told exec given) ∷ []) new
      → asked (mode_of service) message ≡ Ok (asks.Cancel exec)
      → CancelledSo l exec st.session.events given past
      → IsSound l service (moved st new (heard_with st.session past))
  pub removed : (service : Service) (st : State S) (message : List (List ℕ)) (ids : List ℕ)
      (new : Log Service Entry) → IsAdded l service st (Call message)
      (reply_spelling (tells.Removed (live_among (document l st.session) ids)) ∷ []) new
      → asked (mode_of service) message ≡ Ok (asks.RemoveVersions ids)
      → removing (document l st.session).live ids ≡ answer.Removed
      → IsSound l service
      (moved st new (heard_with st.session (event.Remove ids ∷ st.session.events)))
  pub protocol_set : (service : Service) (st : State S) (message : List (List ℕ))
      (protocol : Protocol) (new : Log Service Entry)
      → IsAdded l service st (Call message) (reply_spelling (tells.Protocol protocol) ∷ []) new
      → asked (mode_of service) message ≡ Ok (asks.Protocol protocol)
      → st.session.called ≡ false → IsSound l service
      (moved st new (session_of st.session.buffer st.session.events protocol true))

-- so does an update that the editor's document takes, while ids of executions suffice
abbrev pub UpdateLaw : {S : Type 0} → Lang S → Type 0
UpdateLaw {S} l = (service : Service) (st : State S) (message : List (List ℕ)) (version : ℕ)
    (wanted : Asked) (b : Buffer) (new : Log Service Entry)
    → IsAdded l service st (Call message) (reply_spelling (tells.Assign version (rows_told
    (document l st.session).tip (document l (with_buffer st.session version b)).tip)) ∷ []) new
    → asked (mode_of service) message ≡ Ok (asks.Update version wanted.items wanted.blobs)
    → (document l st.session).last < version
    → prepared st.session.buffer (length (document l st.session).live) wanted ≡ Ok b
    → (assignment_of (document l st.session) b.nodes b.document.blobs).next ≤ id_end
    → IsSound l service (record {
      log = new;
      session = record (with_buffer st.session version b) { called = true };
      last = version;
      holding = st.holding;
      jobs = st.jobs;
    })
