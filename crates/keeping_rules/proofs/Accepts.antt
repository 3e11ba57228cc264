-- Whether a worker whom a message names can take a part or end it.
use Rattle.std.proofs.Common.{◌≡◌, ℕ, Option, Some, None, Ok, Err, ap, ◌∙◌}
use Rattle.std.specs.Prelude.{◌||◌, is_some, if◌then◌else◌}
use Rattle.std.specs.Option.{is_none}
use Rattle.pide_base.specs.declared.part.Part.{Part}
use Rattle.language.specs.Lang.{Lang}
use Rattle.message_values.specs.declared.editor_message.EditorMessage.TheVariants as asks
use Rattle.message_values.specs.declared.refusal.Refusal.TheVariants.{NothingToStep}
use Rattle.core_rules.specs.Ready.{first_ready}
use Rattle.core_rules.specs.Standing.{held}
use Rattle.session_rules.specs.declared.service.Service.{Service}
use Rattle.session_rules.specs.Session.{Session}
use Rattle.session_rules.specs.Accepting.{accepted}

module _ {S : Type 0} (l : Lang S) (service : Service) (s : Session) where
  -- a worker that holds nothing can take the first ready part
  pub claims_so : (who : ℕ) (part : Part) → held s.events who ≡ None → first_ready l s.events ≡ Some part
      → accepted l service s (asks.Claim who) ≡ Ok s
  claims_so who part idle ready =
      ap (λ (o : Option Part). if is_some o || is_none (first_ready l s.events) then Err NothingToStep else Ok s) idle
      ∙ ap (λ (o : Option Part). if is_none o then Err NothingToStep else Ok s) ready

  -- one that holds a part can end it
  pub finishes_so : (who : ℕ) (part : Part) → held s.events who ≡ Some part → accepted l service s (asks.Finish who) ≡ Ok s
  finishes_so who part holds = ap (λ (o : Option Part). if is_some o then Ok s else Err NothingToStep) holds
