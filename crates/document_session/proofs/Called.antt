-- Messages that call for a worker's step.
use Rattle.std.proofs.Common.{◌≡◌, ◌≢◌, ℕ, List, ◌∷◌, Option, Some, None, Result, Ok, Err, sym, ap, ◌∙◌}
use Rattle.std.specs.Prelude.{◌||◌, is_some, if◌then◌else◌}
use Rattle.std.specs.Option.{is_none}
use Rattle.pide_base.specs.declared.part.Part.{Part}
use Rattle.language.specs.Lang.{Lang}
use Rattle.message_values.specs.declared.editor_message.EditorMessage.{EditorMessage}
use Rattle.message_values.specs.declared.editor_message.EditorMessage.TheVariants as asks
use Rattle.message_values.specs.declared.refusal.Refusal.{Refusal}
use Rattle.message_values.specs.declared.refusal.Refusal.TheVariants.{NothingToStep}
use Rattle.message_values.specs.Asked.{asked}
use Rattle.core_rules.specs.Ready.{first_ready}
use Rattle.core_rules.specs.Standing.{held}
use Rattle.reply_outbox.specs.declared.item.Item.TheVariants.{Made}
use Rattle.session_rules.specs.declared.entry.Entry.TheVariants.{Call}
use Rattle.session_rules.specs.declared.service.Service.{Service}
use Rattle.session_rules.specs.Services.{mode_of}
use Rattle.session_rules.specs.Session.{Session}
use Rattle.session_rules.specs.Accepting.{accepted}
use Rattle.session_rules.specs.Steps.{Due, Nothing, Claims, Finishes, due, due_by, due_of, called_for}
use Rattle.keeping_rules.specs.Items.{SessionItem, heard_in, session_in}

claim_due : (who : ℕ) (d : Due) → d ≡ Claims who → d ≢ Nothing
claim_due who d is none = let no : Claims who ≡ Nothing = sym is ∙ none in absurd (cc)

finish_due : (who : ℕ) (d : Due) → d ≡ Finishes who → d ≢ Nothing
finish_due who d is none = let no : Finishes who ≡ Nothing = sym is ∙ none in absurd (cc)

module _ {S : Type 0} (l : Lang S) (service : Service) (old : List SessionItem) (s : Session) (stands : session_in l service old ≡ s)
    (message : List (List ℕ)) (who : ℕ) where
  calls : (m : EditorMessage) → asked (mode_of service) message ≡ Ok m → accepted l service s m ≡ Ok s
      → due l service (heard_in service (Made (Call message) ∷ old)) ≡ called_for m
  calls m asks_it accepts = ap (λ (t : Session). due_of l service t (asked (mode_of service) message)) stands
      ∙ ap (λ (r : Result EditorMessage Refusal). due_of l service s r) asks_it ∙ ap (λ (r : Result Session Refusal). due_by r (called_for m)) accepts

  -- a worker that holds nothing is told to take a part, where one is ready
  pub claim_called : asked (mode_of service) message ≡ Ok (asks.Claim who) → (part : Part) → held s.events who ≡ None
      → first_ready l s.events ≡ Some part → due l service (heard_in service (Made (Call message) ∷ old)) ≢ Nothing
  claim_called asks_it part idle ready = claim_due who _ (calls (asks.Claim who) asks_it (
      ap (λ (o : Option Part). if is_some o || is_none (first_ready l s.events) then Err NothingToStep else Ok s) idle
      ∙ ap (λ (o : Option Part). if is_none o then Err NothingToStep else Ok s) ready))

  -- one that holds a part is told to end it
  pub finish_called : asked (mode_of service) message ≡ Ok (asks.Finish who) → (part : Part) → held s.events who ≡ Some part
      → due l service (heard_in service (Made (Call message) ∷ old)) ≢ Nothing
  finish_called asks_it part holds = finish_due who _ (calls (asks.Finish who) asks_it (
      ap (λ (o : Option Part). if is_some o then Ok s else Err NothingToStep) holds))
