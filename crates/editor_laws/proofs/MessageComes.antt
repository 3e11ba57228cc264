-- What comes of each message of a legal history.
use Rattle.std.proofs.Common.{◌≡◌, true, List, [], ◌∷◌, Result, Ok, Err, refl, ap, subst}
use Rattle.language.specs.Lang.{Lang}
use Rattle.message_values.specs.declared.editor_message.EditorMessage.{EditorMessage}
use Rattle.message_values.specs.declared.editor_message.EditorMessage.TheVariants as asks
use Rattle.message_values.specs.declared.mode.Mode.{Mode}
use Rattle.message_values.specs.declared.refusal.Refusal.{Refusal}
use Rattle.buffer_rules.specs.Trying.{◌>>=◌}
use Rattle.reply_messages.specs.declared.told.Told.TheVariants as tells
use Rattle.core_rules.specs.Legal.{IsLegal as IsLegalList}
use Rattle.session_rules.specs.declared.service.Service.{Service}
use Rattle.session_rules.specs.Accepting.{accepted}
use Rattle.session_rules.specs.Heard.{Heard, Message}
use Rattle.session_rules.specs.History.{session}
use Rattle.session_rules.specs.Legal.{IsLegal}
use Rattle.session_rules.specs.Replies.{or_refusal, entry_replies, message_replies}
use Rattle.session_rules.specs.Session.{Session, answered}
use Rattle.session_rules.specs.Steps.{Nothing, called_for, due, due_by}
use Rattle.mirror_rules.specs.Answers.{Read}
use Rattle.mirror_rules.specs.Images.{Mirror}
use Rattle.editor_laws.proofs.Facts.{Facts}
use Rattle.editor_laws.proofs.Mirrors.{Mirrors}
use Rattle.editor_laws.proofs.Outcomes.{Outcome, outcome_of}
use Rattle.editor_laws.proofs.MessageStep.{cancel_accepted, claim_accepted, finish_accepted, protocol_accepted, refused, remove_accepted, settle_accepted, snapshot_accepted}
use Rattle.editor_laws.proofs.UpdateAccepted.{Accepted, update_accepted}

module _ {S : Type 0} (l : Lang S) (facts : Facts l) (mode : Mode) (service : Service) (h : List Heard) (m : Mirror) (more : List Read)
    (is : Mirrors l (session l service h) m) where
  abbrev s : Session
  s = session l service h

  abbrev Comes : Read → Type 0
  Comes read = Outcome l mode m (entry_replies l service h (Message read)) (session l service (Message read ∷ h)) (due l service (Message read ∷ h)) more

  taken_outcome : (msg : EditorMessage) (after : Session) → IsLegal l service (Message (Ok msg) ∷ h) → m.unanswered ≡ Ok msg ∷ more
      → accepted l service s msg ≡ Ok after → Accepted l facts mode m more service s msg after
  taken_outcome (asks.Update id items blobs) after legal waits e =
      update_accepted l facts mode m more service s is id items blobs waits after e
      (subst (λ r. IsLegalList l (answered s r).events) e (facts.legal service (Message (Ok (asks.Update id items blobs)) ∷ h) legal))
      (λ p pair at. (facts.keeps service (Message (Ok (asks.Update id items blobs)) ∷ h) legal).1 id items blobs after p pair refl e at)
  taken_outcome (asks.Snapshot id name edits) after legal waits e = snapshot_accepted l facts mode m more service s is id name edits after waits e
  taken_outcome (asks.Cancel exec) after legal waits e = cancel_accepted l facts mode m more service s is exec after waits e
  taken_outcome (asks.RemoveVersions ids) after legal waits e = remove_accepted l facts mode m more service s is ids after waits e
  taken_outcome (asks.Settle id) after legal waits e = settle_accepted l facts mode m more service s is id after waits e
  taken_outcome (asks.Protocol p) after legal waits e = protocol_accepted l facts mode m more service s is p after waits e
  taken_outcome (asks.Claim w) after legal waits e = claim_accepted l facts mode m more service s is w after waits e
  taken_outcome (asks.Finish w) after legal waits e = finish_accepted l facts mode m more service s is w after waits e
  taken_outcome (asks.Theory node text) after legal waits e = absurd (cc)

  pub message_step : (read : Read) → IsLegal l service (Message read ∷ h) → m.unanswered ≡ read ∷ more → Comes read
  message_step (Err reason) legal waits = refused l facts mode m more service s is (Err reason) reason waits
  message_step (Ok msg) legal waits = go (accepted l service s msg) refl
    where
      go : (r : Result Session Refusal) → accepted l service s msg ≡ r → Comes (Ok msg)
      go (Err reason) e = outcome_of l mode m (tells.Refused reason ∷ []) (entry_replies l service h (Message (Ok msg))) (record s { called = true })
          (session l service (Message (Ok msg) ∷ h)) Nothing (due l service (Message (Ok msg) ∷ h)) more
          (ap (λ r. or_refusal (r >>= λ after. message_replies l service s after msg)) e) (ap (answered s) e) (ap (λ r. due_by r (called_for msg)) e)
          (refused l facts mode m more service s is (Ok msg) reason waits)
      go (Ok after) e = outcome_of l mode m (or_refusal (message_replies l service s after msg)) (entry_replies l service h (Message (Ok msg))) (record after { called = true })
          (session l service (Message (Ok msg) ∷ h)) (called_for msg) (due l service (Message (Ok msg) ∷ h)) more
          (ap (λ r. or_refusal (r >>= λ after. message_replies l service s after msg)) e) (ap (answered s) e) (ap (λ r. due_by r (called_for msg)) e)
          (taken_outcome msg after legal waits e)
