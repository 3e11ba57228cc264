-- What is told of an update can be read.
use Rattle.std.proofs.Common.{◌≡◌, ℕ, ◌≤◌, List, ◌∷◌, length, Result, Ok, Err, refl, sym, subst}
use Rattle.std.specs.Prelude.{if◌then◌else◌, nat_lt}
use Rattle.std.specs.List.{AllByRecursion}
use Rattle.pide_base.specs.Ids.{id_end}
use Rattle.language.specs.Lang.{Lang}
use Rattle.message_values.specs.declared.editor_message.EditorMessage.TheVariants as asks
use Rattle.message_values.specs.declared.item.BlobChange.{BlobChange}
use Rattle.message_values.specs.declared.item.Item.{Item}
use Rattle.message_values.specs.declared.refusal.Refusal.{Refusal}
use Rattle.message_values.specs.declared.refusal.Refusal.TheVariants.{Limit, VersionNotHigher}
use Rattle.buffer_laws.specs.Fitting.{Agrees}
use Rattle.buffer_laws.specs.Known.{AreBelow}
use Rattle.buffer_rules.specs.Preparing.{Buffer, prepared}
use Rattle.buffer_rules.specs.Trying.{◌>>=◌}
use Rattle.buffer_rules.specs.Updates.{Asked}
use Rattle.core_rules.specs.Assigned.{command_ids}
use Rattle.core_rules.specs.Legal.{IsLegal as IsLegalList}
use Rattle.reply_messages.specs.Fits.{FitsNode}
use Rattle.reply_messages.specs.FoundReplies.{IsReply}
use Rattle.reply_messages.specs.declared.told.Told.TheVariants as tells
use Rattle.session_rules.specs.declared.service.Service.{Service}
use Rattle.session_rules.specs.Heard.{Heard, Message}
use Rattle.session_rules.specs.Session.{Session, answered, document}
use Rattle.session_rules.specs.Accepting.{accepted}
use Rattle.session_rules.specs.History.{session}
use Rattle.session_rules.specs.Legal.{IsLegal}
use Rattle.session_rules.specs.Replies.{rows_told}
use Rattle.session_rules.specs.Updating.{runs_out, with_buffer}
use Rattle.session_rules.proofs.KnownHolding.{not_caught, passed}
use Rattle.editor_laws.proofs.AssignReplies.{ids_fit, rows_fit}
use Rattle.editor_laws.proofs.FineDocs.{FineDoc, made_id}
use Rattle.editor_laws.proofs.Preparing.{prepares}
use Rattle.editor_laws.proofs.ReadCalls.{IsSound}
use Rattle.editor_laws.proofs.HistoryLaws.{HistoryLaws, fine_after}

module _ {S : Type 0} (l : Lang S) (laws : HistoryLaws l) (service : Service) where
  -- an update
  pub update_readable : (h : List Heard) (version : ℕ) (items : List Item) (blobs : List BlobChange)
      (after : Session)
      → AllByRecursion IsSound (Message (Ok (asks.Update version items blobs)) ∷ h)
      → IsLegal l service (Message (Ok (asks.Update version items blobs)) ∷ h)
      → accepted l service (session l service h) (asks.Update version items blobs) ≡ Ok after
      → IsReply (tells.Assign version (rows_told (document l (session l service h)).tip
      (document l after).tip))
  update_readable h version items blobs after sound legal e =
      record { fits = (sound.0.0.0, rows); form = tt }
    where
      s : Session
      s = session l service h

      wanted : Asked
      wanted = record { items = items; blobs = blobs }

      fine : FineDoc (document l after)
      fine = subst (λ r. FineDoc (document l (answered s r))) e
          (fine_after l laws service (Message (Ok (asks.Update version items blobs))
          ∷ h) legal sound)

      events : IsLegalList l after.events
      events = subst (λ r. IsLegalList l (answered s r).events) e
          (laws.legal service (Message (Ok (asks.Update version items blobs)) ∷ h) legal)

      agrees : Agrees after.buffer (document l after)
      agrees = subst (λ r. Agrees (answered s r).buffer (document l (answered s r))) e
          (laws.agree service (Message (Ok (asks.Update version items blobs)) ∷ h) legal)

      limited : after.buffer.next ≤ id_end
      limited = go (prepared s.buffer (length (document l s).live) wanted) refl
          (passed (nat_lt (document l s).last version) (prepared s.buffer
          (length (document l s).live) wanted >>= λ buffer.
          if runs_out (document l s) buffer then Err Limit else Ok
          (with_buffer s version buffer)) VersionNotHigher after e)
        where
          go : (r : Result Buffer Refusal) → prepared s.buffer (length (document l s).live) wanted
              ≡ r
              → (r >>= λ buffer. if runs_out (document l s) buffer then Err Limit else Ok
              (with_buffer s version buffer)) ≡ Ok after → after.buffer.next ≤ id_end
          go (Err reason) one e = absurd (cc)
          go (Ok buffer) one e =
              let p = prepares s.buffer buffer (length (document l s).live) wanted one in
              let is = not_caught (runs_out (document l s) buffer)
              (Ok (with_buffer s version buffer)) Limit after e in
              let same : with_buffer s version buffer ≡ after = cc in
              subst (λ (x : Session). x.buffer.next ≤ id_end) same
              (subst (λ (b : Buffer). b.next ≤ id_end) p.is p.limited)

      rows : AllByRecursion FitsNode (rows_told (document l s).tip (document l after).tip)
      rows = rows_fit (document l s).tip (document l after).tip fine.tip.named
          (let nodes = agrees.nodes in
          ids_fit after.buffer.next (document l after).tip.nodes limited fine.positive
          (subst (λ ns. AreBelow after.buffer.next (command_ids ns)) (sym nodes) agrees.below))
          (λ name i x r at is.
          let home = laws.tip after.events x events (laws.there
          (document l after).tip name i x r at is) in
          made_id (document l after) x home.home fine home.homed)
