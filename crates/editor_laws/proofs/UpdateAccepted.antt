-- What comes of an update that is accepted.
use Rattle.std.proofs.Common.{◌≡◌, ℕ, true, List, ◌∷◌, length, Some, Ok, refl, ap, sym, subst}
use Rattle.std.specs.Prelude.{slice_get, nat_lt}
use Rattle.doc_nodes.specs.declared.node.Node.{Node}
use Rattle.language.specs.Lang.{Lang}
use Rattle.message_values.specs.declared.editor_message.EditorMessage.{EditorMessage}
use Rattle.message_values.specs.declared.editor_message.EditorMessage.TheVariants as asks
use Rattle.message_values.specs.declared.mode.Mode.{Mode}
use Rattle.message_values.specs.declared.item.Item.{Item}
use Rattle.message_values.specs.declared.item.BlobChange.{BlobChange}
use Rattle.buffer_rules.specs.Preparing.{Buffer, prepared}
use Rattle.buffer_rules.specs.Updates.{Asked}
use Rattle.reply_messages.specs.declared.told.Told.TheVariants as tells
use Rattle.core_rules.specs.declared.event.Event.TheVariants as event
use Rattle.core_rules.specs.Legal.{IsLegal as IsLegalList}
use Rattle.session_rules.specs.declared.service.Service.{Service}
use Rattle.session_rules.specs.Accepting.{accepted}
use Rattle.session_rules.specs.Replies.{or_refusal, message_replies, rows_told}
use Rattle.session_rules.specs.Session.{Session, document}
use Rattle.session_rules.specs.Steps.{called_for}
use Rattle.session_rules.specs.Updating.{with_buffer}
use Rattle.session_rules.specs.Keeping.{KeepsFront}
use Rattle.mirror_rules.specs.Answers.{Read}
use Rattle.mirror_rules.specs.Images.{Mirror}
use Rattle.mirror_rules.specs.Updates.{after_update as with_rows, image_after, with_tip}
use Rattle.editor_laws.proofs.Expected.{assigned_fine}
use Rattle.editor_laws.proofs.Facts.{Facts}
use Rattle.editor_laws.proofs.KnownRows.{none_unknown}
use Rattle.editor_laws.proofs.Mirrors.{Mirrors}
use Rattle.editor_laws.proofs.Outcomes.{Outcome, answer_outcome, mirrors_other}
use Rattle.editor_laws.proofs.UpdateStep.{IsTaken, taken_update, takes_too, updated_mirrors}

module _ {S : Type 0} (l : Lang S) (facts : Facts l) (mode : Mode) (m : Mirror) (more : List Read) where
  -- what is told, what the session is then, and what is due, of a message that is accepted
  abbrev pub Accepted : Service → Session → EditorMessage → Session → Type 0
  Accepted service s msg after =
      Outcome l mode m (or_refusal (message_replies l service s after msg))
      (record after { called = true }) (called_for msg) more

  module _ (service : Service) (s : Session) (is : Mirrors l s m) where
    module _ (id : ℕ) (items : List Item) (blobs : List BlobChange) (waits : m.unanswered ≡ Ok (asks.Update id items blobs) ∷ more) where
      update_by : (b : Buffer) → prepared s.buffer (length (document l s).live) (record { items = items; blobs = blobs }) ≡ Ok b
          → nat_lt (document l s).last id ≡ true → IsLegalList l (event.Update id b.nodes b.document.blobs ∷ s.events)
          → ((p : ℕ) (pair : List ℕ × Node) → slice_get b.nodes p ≡ Some pair → KeepsFront (document l s) (document l (with_buffer s id b)).tip p pair)
          → Accepted service s (asks.Update id items blobs) (with_buffer s id b)
      update_by b takes newer legal keeps =
          let asked : Asked = record { items = items; blobs = blobs } in
          let listed = rows_told (document l s).tip (document l (with_buffer s id b)).tip in
          let too = takes_too l facts s m is id asked b takes newer legal keeps in
          let same = ap (with_rows (record m { unanswered = more }) id listed) too in
          answer_outcome l mode m (Ok (asks.Update id items blobs)) more (tells.Assign id listed) (record (with_buffer s id b) { called = true }) waits
          (assigned_fine m id items blobs listed b too
          (none_unknown (document l s).tip (document l (with_buffer s id b)).tip legal.1.1.names)) refl
          (subst (Mirrors l (record (with_buffer s id b) { called = true })) (sym same)
          (mirrors_other l (with_buffer s id b) (record (with_buffer s id b) { called = true })
          (with_tip m id b (image_after m.tip listed b)) (with_tip (record m { unanswered = more }) id b (image_after m.tip listed b))
          (updated_mirrors l facts s m is id asked b takes newer legal keeps) refl refl refl refl))
          (ap (λ (x : Mirror). x.unanswered) same)

      pub update_accepted : (after : Session) → accepted l service s (asks.Update id items blobs) ≡ Ok after → IsLegalList l after.events
          → ((p : ℕ) (pair : List ℕ × Node) → slice_get (document l after).tip.nodes p ≡ Some pair → KeepsFront (document l s) (document l after).tip p pair)
          → Accepted service s (asks.Update id items blobs) after
      update_accepted after e legal keeps =
          let t : IsTaken l s id (record { items = items; blobs = blobs }) after = taken_update l s id (record { items = items; blobs = blobs }) after e in
          subst (λ x. Accepted service s (asks.Update id items blobs) x) t.is
          (update_by t.buffer t.takes t.newer (subst (λ (x : Session). IsLegalList l x.events) (sym t.is) legal)
          (subst (λ (x : Session). (p : ℕ) (pair : List ℕ × Node) → slice_get (document l x).tip.nodes p ≡ Some pair
          → KeepsFront (document l s) (document l x).tip p pair) (sym t.is) keeps))
