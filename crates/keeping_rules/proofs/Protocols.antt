-- What a session keeps once its protocol was set.
use Rattle.std.proofs.Common.{◌≡◌, ℕ, Bool, true, false, List, [], ◌∷◌, map, Option, Result, Ok, Err, refl, sym, ap, ◌∙◌, if◌then◌else◌}
use Rattle.language.specs.Lang.{Lang}
use Rattle.message_values.specs.declared.editor_message.EditorMessage.TheVariants as asks
use Rattle.message_values.specs.declared.protocol.Protocol.{Protocol}
use Rattle.message_values.specs.declared.refusal.Refusal.{Refusal}
use Rattle.message_values.specs.declared.refusal.Refusal.TheVariants.{ProtocolFixed}
use Rattle.message_values.specs.Asked.{asked}
use Rattle.buffer_rules.specs.Trying.{◌>>=◌}
use Rattle.reply_messages.specs.declared.told.Told.{Told}
use Rattle.reply_messages.specs.declared.told.Told.TheVariants as tells
use Rattle.core_rules.specs.Standing.{has_ended}
use Rattle.reply_outbox.specs.Waiting.{Log}
use Rattle.session_rules.specs.declared.entry.Entry.{Entry}
use Rattle.session_rules.specs.declared.entry.Entry.TheVariants as entry
use Rattle.session_rules.specs.declared.service.Service.{Service}
use Rattle.session_rules.specs.Services.{mode_of}
use Rattle.session_rules.specs.Session.{Session, answered}
use Rattle.session_rules.specs.Accepting.{taken}
use Rattle.session_rules.specs.Replies.{or_refusal, told_to}
use Rattle.session_replies.specs.Spelling.{reply_spelling}
use Rattle.session_replies.specs.Works.{Work}
use Rattle.keeping_rules.specs.Kept.{session_of, AreKeptJobs, IsKept}
use Rattle.keeping_rules.specs.Unheard.{IsUnheard}
use Rattle.keeping_rules.proofs.Kept.{WasAdded, answered_as}
use Rattle.keeping_rules.proofs.KnownNothingDue.{nothing_due}

module _ {S : Type 0} (l : Lang S) (service : Service) (s : Session) (protocol : Protocol) where
  abbrev fixed_by : Bool → Result Session Refusal
  fixed_by called = if called then Err ProtocolFixed else Ok (record s { protocol = protocol })

  module _ (none : s.called ≡ false) where
    pub protocol_taken : taken l service s (Ok (asks.Protocol protocol)) ≡ Ok (record s { protocol = protocol })
    protocol_taken = ap fixed_by none

    pub protocol_told : told_to l service s (Ok (asks.Protocol protocol)) ≡ tells.Protocol protocol ∷ []
    protocol_told = ap (λ (r : Result Session Refusal). or_refusal (r >>= λ later. Ok (tells.Protocol protocol ∷ []))) protocol_taken

module _ {S : Type 0} (l : Lang S) (service : Service) (old new : Log Service Entry) (s : Session) (last holding : ℕ)
    (jobs : ℕ → Option (Work S)) (k : IsKept l service old s last holding jobs) (message : List (List ℕ)) (protocol : Protocol)
    (asks_it : asked (mode_of service) message ≡ Ok (asks.Protocol protocol)) (going : has_ended s.events ≡ false)
    (none : s.called ≡ false) (idle : IsUnheard l s) where
  abbrev s' : Session
  s' = session_of s.buffer s.events protocol true

  -- no job is kept
  jobs_are : AreKeptJobs l service s' jobs
  jobs_are = record {
    right = λ who work at. let holds = (k.jobs_are.right who work at).holds in let free = idle.idle who in absurd (cc);
    all = k.jobs_are.all;
    only = k.jobs_are.only;
  }

  pub protocol_kept : (bytes : List ℕ) → WasAdded old new (entry.Call message) (bytes ∷ []) holding → bytes ≡ reply_spelling (tells.Protocol protocol)
      → IsKept l service new s' last holding jobs
  protocol_kept bytes added is = answered_as l service old new s last holding jobs k message (Ok (asks.Protocol protocol)) asks_it
      (bytes ∷ []) s' last added going tt
      (ap (λ (ts : List Told). map reply_spelling ts) (protocol_told l service s protocol none) ∙ ap (λ (x : List ℕ). x ∷ []) (sym is))
      (ap (λ (r : Result Session Refusal). answered s r) (protocol_taken l service s protocol none))
      (nothing_due (taken l service s (Ok (asks.Protocol protocol)))) k.last_is jobs_are refl going k.blobs_are
