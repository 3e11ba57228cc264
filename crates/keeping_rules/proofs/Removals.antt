-- What a session keeps once versions were removed.
use Rattle.std.proofs.Common.{◌≡◌, ℕ, true, false, List, [], ◌∷◌, map, Option, Ok, refl, sym, ap, subst}
use Rattle.core_tables.specs.declared.versions.Removing.{Removing}
use Rattle.core_tables.specs.declared.versions.Removing.TheVariants as answer
use Rattle.core_tables.specs.Removal.{removing}
use Rattle.language.specs.Lang.{Lang}
use Rattle.message_values.specs.declared.editor_message.EditorMessage.TheVariants as asks
use Rattle.message_values.specs.Asked.{asked}
use Rattle.buffer_rules.specs.Trying.{◌>>=◌}
use Rattle.reply_messages.specs.declared.told.Told.{Told}
use Rattle.reply_messages.specs.declared.told.Told.TheVariants as tells
use Rattle.core_rules.specs.declared.event.Event.{Event}
use Rattle.core_rules.specs.declared.event.Event.TheVariants as event
use Rattle.core_rules.specs.Standing.{has_ended}
use Rattle.reply_outbox.specs.Waiting.{Log}
use Rattle.session_rules.specs.declared.entry.Entry.{Entry}
use Rattle.session_rules.specs.declared.entry.Entry.TheVariants as entry
use Rattle.session_rules.specs.declared.service.Service.{Service}
use Rattle.session_rules.specs.Services.{mode_of}
use Rattle.session_rules.specs.Session.{Session, document, answered, with_event}
use Rattle.session_rules.specs.Updating.{removed_by}
use Rattle.session_rules.specs.Replies.{live_among, or_refusal, message_replies, told_to}
use Rattle.session_rules.specs.Steps.{Nothing, due_by}
use Rattle.session_replies.specs.Spelling.{reply_spelling}
use Rattle.session_replies.specs.Works.{Work}
use Rattle.keeping_rules.specs.Kept.{session_of, IsKept}
use Rattle.keeping_rules.proofs.Jobs.{jobs_on}
use Rattle.keeping_rules.proofs.Kept.{WasAdded, answered_as}

module _ {S : Type 0} (l : Lang S) (service : Service) (s : Session) (ids : List ℕ) where
  removed_told : removing (document l s).live ids ≡ answer.Removed
      → told_to l service s (Ok (asks.RemoveVersions ids)) ≡ tells.Removed (live_among (document l s) ids) ∷ []
  removed_told is = ap (λ (r : Removing). or_refusal (removed_by s ids r >>= λ after. message_replies l service s after (asks.RemoveVersions ids))) is

module _ {S : Type 0} (l : Lang S) (service : Service) (old new : Log Service Entry) (s : Session) (last holding : ℕ)
    (jobs : ℕ → Option (Work S)) (k : IsKept l service old s last holding jobs) (message : List (List ℕ)) (ids : List ℕ)
    (asks_it : asked (mode_of service) message ≡ Ok (asks.RemoveVersions ids)) (going : has_ended s.events ≡ false)
    (removed : removing (document l s).live ids ≡ answer.Removed) where
  pub removed_kept : (after : List Event) → after ≡ event.Remove ids ∷ s.events
      → WasAdded old new (entry.Call message)
      (reply_spelling (tells.Removed (live_among (document l s) ids)) ∷ []) holding
      → IsKept l service new (session_of s.buffer after s.protocol true) last holding jobs
  removed_kept after same added =
      let s' : Session = record (with_event s (event.Remove ids)) { called = true } in
      subst (λ (h : List Event). IsKept l service new (session_of s.buffer h s.protocol true) last holding jobs) (sym same)
      (answered_as l service old new s last holding jobs k message (Ok (asks.RemoveVersions ids)) asks_it
      (reply_spelling (tells.Removed (live_among (document l s) ids)) ∷ []) s' last added going tt
      (ap (λ (ts : List Told). map reply_spelling ts) (removed_told l service s ids removed))
      (ap (λ (r : Removing). answered s (removed_by s ids r)) removed)
      (ap (λ (r : Removing). due_by (removed_by s ids r) Nothing) removed) k.last_is
      (jobs_on l s s' refl (λ who. refl) (λ e x at. at) service jobs k.jobs_are) refl going k.blobs_are)
