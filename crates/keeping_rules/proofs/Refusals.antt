-- What is told of a message that is refused, and that it waits for nothing.
use Rattle.std.proofs.Common.{◌≡◌, [], ◌∷◌, None, Result, Ok, Err, refl, ap}
use Rattle.exec_rules.specs.declared.version.Version.{Version}
use Rattle.language.specs.Lang.{Lang}
use Rattle.message_values.specs.declared.editor_message.EditorMessage.{EditorMessage}
use Rattle.message_values.specs.declared.editor_message.EditorMessage.TheVariants as asks
use Rattle.message_values.specs.declared.refusal.Refusal.{Refusal}
use Rattle.buffer_rules.specs.Trying.{◌>>=◌}
use Rattle.reply_messages.specs.declared.told.Told.TheVariants as tells
use Rattle.session_rules.specs.declared.service.Service.{Service}
use Rattle.session_rules.specs.Session.{Session}
use Rattle.session_rules.specs.Looking.{settles}
use Rattle.session_rules.specs.Accepting.{taken}
use Rattle.session_rules.specs.Legal.{awaited_by, awaited_of}
use Rattle.session_rules.specs.Replies.{or_refusal, message_replies, told_to}
use Rattle.session_rules.specs.Steps.{Nothing, called_for, due_by, due_of}

module _ {S : Type 0} (l : Lang S) (service : Service) (s : Session) where
  pub refused_told : (read : Result EditorMessage Refusal) (reason : Refusal) → taken l service s read ≡ Err reason
      → told_to l service s read ≡ tells.Refused reason ∷ []
  refused_told (Err other) reason e = let same : other ≡ reason = cc in ap (λ r. tells.Refused r ∷ []) same
  refused_told (Ok m) reason e =
      ap (λ (r : Result Session Refusal). or_refusal
      (r >>= λ after. message_replies l service s after m)) e

  pub refused_due : (read : Result EditorMessage Refusal) (reason : Refusal) → taken l service s read ≡ Err reason
      → due_of l service s read ≡ Nothing
  refused_due (Err other) reason e = refl
  refused_due (Ok m) reason e = ap (λ (r : Result Session Refusal). due_by r (called_for m)) e

  settle_refused : (o : Result Version Refusal) (reason : Refusal) → (o >>= λ version. Ok s) ≡ Err reason → awaited_by o ≡ None
  settle_refused (Ok version) reason e = absurd (cc)
  settle_refused (Err other) reason e = refl

  pub refused_awaits : (read : Result EditorMessage Refusal) (reason : Refusal) → taken l service s read ≡ Err reason
      → awaited_of l service s read ≡ None
  refused_awaits (Err other) reason e = refl
  refused_awaits (Ok (asks.Update version items blobs)) reason e = refl
  refused_awaits (Ok (asks.Snapshot version node edits)) reason e = refl
  refused_awaits (Ok (asks.Cancel exec)) reason e = refl
  refused_awaits (Ok (asks.RemoveVersions versions)) reason e = refl
  refused_awaits (Ok (asks.Settle id)) reason e = settle_refused (settles l service s id) reason e
  refused_awaits (Ok (asks.Protocol protocol)) reason e = refl
  refused_awaits (Ok (asks.Claim w)) reason e = refl
  refused_awaits (Ok (asks.Finish w)) reason e = refl
  refused_awaits (Ok (asks.Theory node text)) reason e = refl
