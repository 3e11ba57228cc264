-- A message is made of the arguments that tell it.
use Rattle.std.proofs.Common.{ℕ, inl, inr, List, [], ◌∷◌, Some, decimal, refl, ap, ◌∙◌}
use Rattle.std.specs.Str.{encode_utf8_all}
use Rattle.pide_base.specs.Ids.{IsId}
use Rattle.message_values.specs.ShapeBodies.{number_body, edit_body}
use Rattle.message_values.specs.Each.{◌>>=◌}
use Rattle.message_values.specs.FitsShapes.{FitsEdit}
use Rattle.message_values.specs.Numbers.{number_of}
use Rattle.message_values.specs.Shapes.{items_in}
use Rattle.message_values.specs.Texts.{scalars_of}
use Rattle.message_values.specs.Words.{id_in, name_of, edit_in}
use Rattle.message_values.proofs.KnownEdits.{edit_finds}
use Rattle.message_values.proofs.KnownWords.{id_finds, name_complete, scalars_complete}
use Rattle.message_values.specs.declared.editor_message.EditorMessage.{EditorMessage}
use Rattle.message_values.specs.declared.editor_message.EditorMessage.TheVariants as asks
use Rattle.message_values.specs.Asked.{spelled, id_at}
use Rattle.message_values.specs.Fits.{Fits}
use Rattle.message_values.specs.Functions.{takes}
use Rattle.message_values.specs.Protocols.{protocol_of}
use Rattle.message_values.specs.Spelled.{OneTells, ways}
use Rattle.message_values.specs.Workers.{worker_of}
use Rattle.message_values.proofs.Telling.{OneAnswer, data_finds, id_finds_at, worker_finds, protocol_finds}
use Rattle.message_values.proofs.MadeParts.{IsMade, one_yes, update_made, blobs_made}

pub message_made : OneAnswer → (m : EditorMessage) (arguments : List (List ℕ)) → Fits m → OneTells (ways m) arguments → IsMade m arguments
message_made one (asks.Update n is []) [] fits (inl h) = absurd h
message_made one (asks.Update n is []) [] fits (inr (inl h)) = absurd h
message_made one (asks.Update n is []) [] fits (inr (inr h)) = absurd h
message_made one (asks.Update n is []) (v ∷ []) fits (inl h) = absurd h.1
message_made one (asks.Update n is []) (v ∷ []) fits (inr (inl h)) = absurd h.1
message_made one (asks.Update n is []) (v ∷ []) fits (inr (inr h)) = absurd h
message_made one (asks.Update n is []) (v ∷ text ∷ []) fits (inl h) = update_made one v n text is fits.0 h.0 fits.1 h.1.0
message_made one (asks.Update n is []) (v ∷ text ∷ []) fits (inr (inl h)) = absurd h.1.1
message_made one (asks.Update n is []) (v ∷ text ∷ []) fits (inr (inr h)) = absurd h
message_made one (asks.Update n is []) (v ∷ text ∷ other ∷ []) fits (inl h) = absurd h.1.1
message_made one (asks.Update n is []) (v ∷ text ∷ other ∷ []) fits (inr (inl h)) = blobs_made one v n text other is [] fits.0 h.0 fits.1 h.1.0 fits.2 h.1.1.0
message_made one (asks.Update n is []) (v ∷ text ∷ other ∷ []) fits (inr (inr h)) = absurd h
message_made one (asks.Update n is []) (v ∷ text ∷ other ∷ w ∷ more) fits (inl h) = absurd h.1.1
message_made one (asks.Update n is []) (v ∷ text ∷ other ∷ w ∷ more) fits (inr (inl h)) = absurd h.1.1.1
message_made one (asks.Update n is []) (v ∷ text ∷ other ∷ w ∷ more) fits (inr (inr h)) = absurd h
message_made one (asks.Update n is (b ∷ bs)) [] fits (inl h) = absurd h
message_made one (asks.Update n is (b ∷ bs)) [] fits (inr h) = absurd h
message_made one (asks.Update n is (b ∷ bs)) (v ∷ []) fits (inl h) = absurd h.1
message_made one (asks.Update n is (b ∷ bs)) (v ∷ []) fits (inr h) = absurd h
message_made one (asks.Update n is (b ∷ bs)) (v ∷ text ∷ []) fits (inl h) = absurd h.1.1
message_made one (asks.Update n is (b ∷ bs)) (v ∷ text ∷ []) fits (inr h) = absurd h
message_made one (asks.Update n is (b ∷ bs)) (v ∷ text ∷ other ∷ []) fits (inl h) = blobs_made one v n text other is (b ∷ bs) fits.0 h.0 fits.1 h.1.0 fits.2 h.1.1.0
message_made one (asks.Update n is (b ∷ bs)) (v ∷ text ∷ other ∷ []) fits (inr h) = absurd h
message_made one (asks.Update n is (b ∷ bs)) (v ∷ text ∷ other ∷ w ∷ more) fits (inl h) = absurd h.1.1.1
message_made one (asks.Update n is (b ∷ bs)) (v ∷ text ∷ other ∷ w ∷ more) fits (inr h) = absurd h
message_made one (asks.Snapshot n node edits) [] fits (inl h) = absurd h
message_made one (asks.Snapshot n node edits) (v ∷ []) fits (inl h) = absurd h.1
message_made one (asks.Snapshot n node edits) (v ∷ w ∷ []) fits (inl h) = absurd h.1.1
message_made one (asks.Snapshot n node edits) (v ∷ w ∷ text ∷ []) fits (inl h) =
    let shown = data_finds one edit_in edit_body FitsEdit edit_finds text edits fits.2 h.1.1.0 in
    record {
      takes = refl;
      yxml = one_yes _ shown.there;
      made = ap (λ t. id_at t >>= λ k. name_of w >>= λ name. (spelled text >>= items_in edit_in) >>= λ es. Some (asks.Snapshot k name es)) h.0
          ∙ ap (λ t. id_at (decimal n) >>= λ k. name_of t >>= λ name. (spelled text >>= items_in edit_in) >>= λ es. Some (asks.Snapshot k name es)) h.1.0
          ∙ ap (λ o. o >>= λ k. name_of node >>= λ name. (spelled text >>= items_in edit_in) >>= λ es. Some (asks.Snapshot k name es)) (id_finds_at n fits.0)
          ∙ ap (λ o. o >>= λ name. (spelled text >>= items_in edit_in) >>= λ es. Some (asks.Snapshot n name es)) (name_complete node fits.1)
          ∙ ap (λ o. o >>= λ es. Some (asks.Snapshot n node es)) shown.read;
    }
message_made one (asks.Snapshot n node edits) (v ∷ w ∷ text ∷ x ∷ more) fits (inl h) = absurd h.1.1.1
message_made one (asks.Snapshot n node edits) arguments fits (inr h) = absurd h
message_made one (asks.Cancel exec) [] fits (inl h) = absurd h
message_made one (asks.Cancel exec) (v ∷ []) fits (inl h) = record {
  takes = refl;
  yxml = refl;
  made = ap (λ t. id_at t >>= λ e. Some (asks.Cancel e)) h.0 ∙ ap (λ o. o >>= λ e. Some (asks.Cancel e)) (id_finds_at exec fits);
}
message_made one (asks.Cancel exec) (v ∷ w ∷ more) fits (inl h) = absurd h.1
message_made one (asks.Cancel exec) arguments fits (inr h) = absurd h
message_made one (asks.RemoveVersions versions) [] fits (inl h) = absurd h
message_made one (asks.RemoveVersions versions) (v ∷ []) fits (inl h) =
    let shown = data_finds one id_in number_body IsId id_finds v versions fits h.0 in
    record { takes = refl; yxml = one_yes _ shown.there; made = ap (λ o. o >>= λ vs. Some (asks.RemoveVersions vs)) shown.read }
message_made one (asks.RemoveVersions versions) (v ∷ w ∷ more) fits (inl h) = absurd h.1
message_made one (asks.RemoveVersions versions) arguments fits (inr h) = absurd h
message_made one (asks.Settle n) [] fits (inl h) = absurd h
message_made one (asks.Settle n) (v ∷ []) fits (inl h) = record {
  takes = refl;
  yxml = refl;
  made = ap (λ t. id_at t >>= λ k. Some (asks.Settle k)) h.0 ∙ ap (λ o. o >>= λ k. Some (asks.Settle k)) (id_finds_at n fits);
}
message_made one (asks.Settle n) (v ∷ w ∷ more) fits (inl h) = absurd h.1
message_made one (asks.Settle n) arguments fits (inr h) = absurd h
message_made one (asks.Protocol p) [] fits (inl h) = absurd h
message_made one (asks.Protocol p) (v ∷ []) fits (inl h) = record {
  takes = refl;
  yxml = refl;
  made = ap (λ t. (number_of t >>= protocol_of) >>= λ q. Some (asks.Protocol q)) h.0 ∙ ap (λ o. o >>= λ q. Some (asks.Protocol q)) (protocol_finds p);
}
message_made one (asks.Protocol p) (v ∷ w ∷ more) fits (inl h) = absurd h.1
message_made one (asks.Protocol p) arguments fits (inr h) = absurd h
message_made one (asks.Claim n) [] fits (inl h) = absurd h
message_made one (asks.Claim n) (v ∷ []) fits (inl h) = record {
  takes = refl;
  yxml = refl;
  made = ap (λ t. (number_of t >>= worker_of) >>= λ k. Some (asks.Claim k)) h.0 ∙ ap (λ o. o >>= λ k. Some (asks.Claim k)) (worker_finds n fits);
}
message_made one (asks.Claim n) (v ∷ w ∷ more) fits (inl h) = absurd h.1
message_made one (asks.Claim n) arguments fits (inr h) = absurd h
message_made one (asks.Finish n) [] fits (inl h) = absurd h
message_made one (asks.Finish n) (v ∷ []) fits (inl h) = record {
  takes = refl;
  yxml = refl;
  made = ap (λ t. (number_of t >>= worker_of) >>= λ k. Some (asks.Finish k)) h.0 ∙ ap (λ o. o >>= λ k. Some (asks.Finish k)) (worker_finds n fits);
}
message_made one (asks.Finish n) (v ∷ w ∷ more) fits (inl h) = absurd h.1
message_made one (asks.Finish n) arguments fits (inr h) = absurd h
message_made one (asks.Theory node text) [] fits (inl h) = absurd h
message_made one (asks.Theory node text) (v ∷ []) fits (inl h) = absurd h.1
message_made one (asks.Theory node text) (v ∷ w ∷ []) fits (inl h) = record {
  takes = refl;
  yxml = refl;
  made = ap (λ t. name_of t >>= λ k. scalars_of w >>= λ s. Some (asks.Theory k s)) h.0
      ∙ ap (λ t. name_of node >>= λ k. scalars_of t >>= λ s. Some (asks.Theory k s)) h.1.0
      ∙ ap (λ o. o >>= λ k. scalars_of (encode_utf8_all text) >>= λ s. Some (asks.Theory k s)) (name_complete node fits.0)
      ∙ ap (λ o. o >>= λ s. Some (asks.Theory node s)) (scalars_complete text fits.1);
}
message_made one (asks.Theory node text) (v ∷ w ∷ x ∷ more) fits (inl h) = absurd h.1.1
message_made one (asks.Theory node text) arguments fits (inr h) = absurd h
