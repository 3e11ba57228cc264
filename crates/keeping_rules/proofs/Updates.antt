-- What a session keeps once a version was made.
use Rattle.std.proofs.Common.{◌≡◌, ℕ, ◌<◌, Bool, true, false, List, [], ◌∷◌, map, length, Option, Result, Ok, Err, refl, sym, ap, subst, ◌∙◌, if◌then◌else◌}
use Rattle.std.proofs.lemmas.Bool.{le-ltb}
use Rattle.std.specs.Prelude.{◌≤◌}
use Rattle.pide_base.specs.Ids.{id_end}
use Rattle.language.specs.Lang.{Lang}
use Rattle.message_values.specs.declared.editor_message.EditorMessage.{EditorMessage}
use Rattle.message_values.specs.declared.editor_message.EditorMessage.TheVariants as asks
use Rattle.message_values.specs.declared.refusal.Refusal.{Refusal}
use Rattle.message_values.specs.declared.refusal.Refusal.TheVariants.{Limit}
use Rattle.message_values.specs.Asked.{asked}
use Rattle.buffer_rules.specs.Trying.{◌>>=◌}
use Rattle.buffer_rules.specs.Updates.{Asked}
use Rattle.buffer_rules.specs.Preparing.{Buffer, prepared}
use Rattle.reply_messages.specs.declared.told.Told.{Told}
use Rattle.reply_messages.specs.declared.told.Told.TheVariants as tells
use Rattle.core_rules.specs.declared.event.Event.{Event}
use Rattle.core_rules.specs.declared.event.Event.TheVariants as event
use Rattle.core_rules.specs.Doc.{assignment_of}
use Rattle.core_rules.specs.Standing.{has_ended}
use Rattle.core_rules.proofs.KnownStays.{setting_stays}
use Rattle.reply_outbox.specs.Waiting.{Log}
use Rattle.session_rules.specs.declared.entry.Entry.{Entry}
use Rattle.session_rules.specs.declared.entry.Entry.TheVariants as entry
use Rattle.session_rules.specs.declared.service.Service.{Service}
use Rattle.session_rules.specs.Services.{mode_of}
use Rattle.session_rules.specs.Session.{Session, document, answered}
use Rattle.session_rules.specs.Accepting.{taken}
use Rattle.session_rules.specs.Updating.{with_buffer}
use Rattle.session_rules.specs.Replies.{or_refusal, rows_told, told_to}
use Rattle.session_replies.specs.Spelling.{reply_spelling}
use Rattle.session_replies.specs.Works.{Work}
use Rattle.keeping_rules.specs.Kept.{session_of, IsKept}
use Rattle.keeping_rules.proofs.Jobs.{jobs_on}
use Rattle.keeping_rules.proofs.Kept.{WasAdded, answered_as}
use Rattle.keeping_rules.proofs.KnownNothingDue.{nothing_due}
use Rattle.keeping_rules.proofs.KnownChecked.{taken_checked}

module _ {S : Type 0} (l : Lang S) (service : Service) (s : Session) (version : ℕ) (wanted : Asked) where
  abbrev read : Result EditorMessage Refusal
  read = Ok (asks.Update version wanted.items wanted.blobs)

  module _ (newer : (document l s).last < version) where
    module _ (b : Buffer) (after : prepared s.buffer (length (document l s).live) wanted ≡ Ok b) where
      module _ (fits : (assignment_of (document l s) b.nodes b.document.blobs).next ≤ id_end) where
        pub made_so : taken l service s read ≡ Ok (with_buffer s version b)
        made_so = taken_checked l service s version wanted newer (Ok b) after ∙ ap (λ (c : Bool). if c then Err Limit else Ok (with_buffer s version b))
            (le-ltb id_end (assignment_of (document l s) b.nodes b.document.blobs).next fits)

        -- what is told of it
        pub update_told : told_to l service s read
            ≡ tells.Assign version (rows_told (document l s).tip (document l (with_buffer s version b)).tip) ∷ []
        update_told = ap (λ (r : Result Session Refusal). or_refusal (r >>= λ later.
            Ok (tells.Assign version (rows_told (document l s).tip (document l later).tip) ∷ []))) made_so

module _ {S : Type 0} (l : Lang S) (service : Service) (old new : Log Service Entry) (s : Session) (last holding : ℕ)
    (jobs : ℕ → Option (Work S)) (k : IsKept l service old s last holding jobs) (message : List (List ℕ))
    (version : ℕ) (wanted : Asked) (asks_it : asked (mode_of service) message ≡ Ok (asks.Update version wanted.items wanted.blobs))
    (going : has_ended s.events ≡ false) (newer : (document l s).last < version)
    (b : Buffer) (after : prepared s.buffer (length (document l s).live) wanted ≡ Ok b)
    (fits : (assignment_of (document l s) b.nodes b.document.blobs).next ≤ id_end) where
  abbrev s' : Session
  s' = record (with_buffer s version b) { called = true }

  made_kept : (bytes : List ℕ) → WasAdded old new (entry.Call message) (bytes ∷ []) holding
      → bytes ≡ reply_spelling (tells.Assign version (rows_told (document l s).tip (document l
      (with_buffer s version b)).tip))
      → IsKept l service new s' version holding jobs
  made_kept bytes added is = answered_as l service old new s last holding jobs k message (Ok (asks.Update version wanted.items wanted.blobs)) asks_it
      (bytes ∷ []) s' version added going tt
      (ap (λ (ts : List Told). map reply_spelling ts) (update_told l service s version wanted newer b after fits) ∙ ap (λ (x : List ℕ). x ∷ []) (sym is))
      (ap (λ (r : Result Session Refusal). answered s r) (made_so l service s version wanted newer b after fits))
      (nothing_due (taken l service s (Ok (asks.Update version wanted.items wanted.blobs)))) refl
      (jobs_on l s s' refl (λ who. refl) (λ e x at. setting_stays l (event.Update version b.nodes b.document.blobs) s.events e x at)
      service jobs k.jobs_are) refl going refl

  pub updated_kept : (bytes : List ℕ) → WasAdded old new (entry.Call message) (bytes ∷ []) holding
      → bytes ≡ reply_spelling (tells.Assign version (rows_told (document l s).tip (document l
      (with_buffer s version b)).tip))
      → (past : List Event) (now : Buffer) (newest : ℕ) → past ≡ event.Update version b.nodes b.document.blobs ∷ s.events → now ≡ b → newest ≡ version
      → IsKept l service new (session_of now past s.protocol true) newest holding jobs
  updated_kept bytes added is past now newest past_is buffer_is newest_is =
      subst (λ (n : ℕ). IsKept l service new (session_of now past s.protocol true) n holding jobs) (sym newest_is)
      (subst (λ (x : Buffer). IsKept l service new (session_of x past s.protocol true) version holding jobs) (sym buffer_is)
      (subst (λ (h : List Event). IsKept l service new (session_of b h s.protocol true) version holding jobs) (sym past_is)
      (made_kept bytes added is)))
