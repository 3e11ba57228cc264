-- Steps that are refused, since the worker can take no part, or holds none.
use Rattle.std.proofs.Common.{◌≡◌, ℕ, false, List, None, Result, Ok, Err, ap, ◌∙◌}
use Rattle.language.specs.Lang.{Lang}
use Rattle.message_values.specs.declared.editor_message.EditorMessage.{EditorMessage}
use Rattle.message_values.specs.declared.editor_message.EditorMessage.TheVariants as asks
use Rattle.message_values.specs.declared.refusal.Refusal.{Refusal}
use Rattle.message_values.specs.declared.refusal.Refusal.TheVariants.{NothingToStep}
use Rattle.message_values.specs.Asked.{asked}
use Rattle.core_rules.specs.Standing.{held, has_ended}
use Rattle.prover_core.specs.Claims.{IsIdle}
use Rattle.reply_outbox.specs.Waiting.{Log}
use Rattle.session_rules.specs.declared.entry.Entry.{Entry}
use Rattle.session_rules.specs.declared.service.Service.{Service}
use Rattle.session_rules.specs.Services.{mode_of}
use Rattle.session_rules.specs.Session.{Session}
use Rattle.session_rules.specs.Accepting.{taken}
use Rattle.keeping_rules.specs.Items.{session_in}
use Rattle.keeping_rules.specs.Kept.{IsListed}
use Rattle.document_session.proofs.Refusals.{claims_nothing, finishes_nothing}
use Rattle.document_session.proofs.Still.{known_still}

module _ {S : Type 0} (l : Lang S) (service : Service) (log mid : Log Service Entry) (s : Session) (k : IsListed l service log.items log.waiting s)
    (items : mid.items ≡ log.items) (message : List (List ℕ)) (who : ℕ) where
  -- no part can be taken
  pub nothing_claimed : asked (mode_of service) message ≡ Ok (asks.Claim who) → has_ended s.events ≡ false → IsIdle l s.events who
      → taken l service (session_in l service mid.items) (asked (mode_of service) message) ≡ Err NothingToStep
  nothing_claimed read going idle = known_still l (λ v t. taken l v t (asked (mode_of v) message) ≡ Err NothingToStep) service log mid s k items
      (ap (λ (r : Result EditorMessage Refusal). taken l service s r) read ∙ claims_nothing l service s who going idle)

  -- none is held
  pub nothing_finished : asked (mode_of service) message ≡ Ok (asks.Finish who) → held s.events who ≡ None
      → taken l service (session_in l service mid.items) (asked (mode_of service) message) ≡ Err NothingToStep
  nothing_finished read idle = known_still l (λ v t. taken l v t (asked (mode_of v) message) ≡ Err NothingToStep) service log mid s k items
      (ap (λ (r : Result EditorMessage Refusal). taken l service s r) read ∙ finishes_nothing l service s who idle)
