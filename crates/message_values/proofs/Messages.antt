-- What is made of arguments is the message that they tell.
use Rattle.std.proofs.Common.{◌≡◌, ℕ, inl, inr, List, [], ◌∷◌, Some, decimal, refl, subst}
use Rattle.std.specs.List.{AllByRecursion}
use Rattle.pide_base.specs.Ids.{IsId}
use Rattle.message_values.specs.ShapeBodies.{number_body, edit_body}
use Rattle.message_values.specs.Each.{◌>>=◌}
use Rattle.message_values.specs.FitsShapes.{FitsEdit}
use Rattle.message_values.specs.Numbers.{number_of}
use Rattle.message_values.specs.Shapes.{items_in}
use Rattle.message_values.specs.Texts.{scalars_of}
use Rattle.message_values.specs.Words.{id_in, name_of, edit_in}
use Rattle.message_values.proofs.KnownSteps.{stepped}
use Rattle.message_values.proofs.KnownEdits.{edit_found}
use Rattle.message_values.proofs.KnownWords.{id_found, name_sound, scalars_sound}
use Rattle.message_values.specs.declared.editor_message.EditorMessage.{EditorMessage}
use Rattle.message_values.specs.declared.editor_message.EditorMessage.TheVariants as asks
use Rattle.message_values.specs.declared.item.BlobChange.{BlobChange}
use Rattle.message_values.specs.declared.item.Item.{Item}
use Rattle.message_values.specs.declared.function.Function.{Function}
use Rattle.message_values.specs.declared.function.Function.TheVariants.{Update, Snapshot, Cancel, RemoveVersions, Settle, Protocol, Claim, Finish, Theory}
use Rattle.message_values.specs.Asked.{spelled, id_at, message_of}
use Rattle.message_values.specs.Bodies.{item_body, blob_body}
use Rattle.message_values.specs.Fits.{FitsItem, FitsBlob, Fits}
use Rattle.message_values.specs.Items.{item_in, blob_in}
use Rattle.message_values.specs.Protocols.{protocol_of}
use Rattle.message_values.specs.Spelled.{list_of, Tells, OneTells, ways, function_of}
use Rattle.message_values.specs.Workers.{worker_of}
use Rattle.message_values.proofs.Encoded.{item_found, blob_found}
use Rattle.message_values.proofs.Telling.{OneAnswer, data_found, id_found_at, worker_found, protocol_found}

-- the arguments tell a message of this function, which has the limits of its types
pub record IsTold (f : Function) (arguments : List (List ℕ)) (m : EditorMessage) : Type 0 where
  pub fits : Fits m
  pub function : function_of m ≡ f
  pub tells : OneTells (ways m) arguments

told_as : (f : Function) (arguments : List (List ℕ)) (made m : EditorMessage) → Some made ≡ Some m → IsTold f arguments made → IsTold f arguments m
told_as f arguments made m e told = let same : made ≡ m = cc in subst (IsTold f arguments) same told

update_told : (v : List ℕ) (n : ℕ) (text : List ℕ) (is : List Item) → IsId n → v ≡ decimal n → AllByRecursion FitsItem is → Tells (list_of item_body is) text
    → IsTold Update (v ∷ text ∷ []) (asks.Update n is [])
update_told v n text is id same fits tells = record { fits = (id, fits, tt); function = refl; tells = inl (same, (tells, tt)) }

blobs_told : (v : List ℕ) (n : ℕ) (text other : List ℕ) (is : List Item) (bs : List BlobChange) → IsId n → v ≡ decimal n → AllByRecursion FitsItem is → Tells (list_of item_body is) text
    → AllByRecursion FitsBlob bs → Tells (list_of blob_body bs) other → IsTold Update (v ∷ text ∷ other ∷ []) (asks.Update n is bs)
blobs_told v n text other is [] id same fits tells blobs too = record { fits = (id, fits, blobs); function = refl; tells = inr (inl (same, (tells, (too, tt)))) }
blobs_told v n text other is (b ∷ bs) id same fits tells blobs too = record { fits = (id, fits, blobs); function = refl; tells = inl (same, (tells, (too, tt))) }

pub message_found : OneAnswer → (f : Function) (arguments : List (List ℕ)) (m : EditorMessage) → message_of f arguments ≡ Some m → IsTold f arguments m
message_found one Update [] m e = absurd (cc)
message_found one Update (v ∷ []) m e = absurd (cc)
message_found one Update (v ∷ items ∷ []) m e =
    let a = stepped (id_at v) _ m e in
    let b = stepped (spelled items >>= items_in item_in) _ m a.2 in
    let id = id_found_at v a.0 a.1 in
    let shown = data_found one item_in item_body FitsItem item_found items b.0 b.1 in
    told_as Update _ (asks.Update a.0 b.0 []) m b.2 (update_told v a.0 items b.0 id.0 id.1 shown.0 shown.1)
message_found one Update (v ∷ items ∷ blobs ∷ []) m e =
    let a = stepped (id_at v) _ m e in
    let b = stepped (spelled items >>= items_in item_in) _ m a.2 in
    let c = stepped (spelled blobs >>= items_in blob_in) _ m b.2 in
    let id = id_found_at v a.0 a.1 in
    let shown = data_found one item_in item_body FitsItem item_found items b.0 b.1 in
    let too = data_found one blob_in blob_body FitsBlob blob_found blobs c.0 c.1 in
    told_as Update _ (asks.Update a.0 b.0 c.0) m c.2 (blobs_told v a.0 items blobs b.0 c.0 id.0 id.1 shown.0 shown.1 too.0 too.1)
message_found one Update (v ∷ items ∷ blobs ∷ other ∷ more) m e =
    let a = stepped (id_at v) _ m e in
    let b = stepped (spelled items >>= items_in item_in) _ m a.2 in absurd (cc (b.2))
message_found one Snapshot [] m e = absurd (cc)
message_found one Snapshot (v ∷ []) m e = absurd (cc)
message_found one Snapshot (v ∷ node ∷ []) m e = absurd (cc)
message_found one Snapshot (v ∷ node ∷ edits ∷ []) m e =
    let a = stepped (id_at v) _ m e in
    let n = stepped (name_of node) _ m a.2 in
    let b = stepped (spelled edits >>= items_in edit_in) _ m n.2 in
    let id = id_found_at v a.0 a.1 in
    let name = name_sound node n.0 n.1 in
    let shown = data_found one edit_in edit_body FitsEdit edit_found edits b.0 b.1 in
    told_as Snapshot _ (asks.Snapshot a.0 n.0 b.0) m b.2 (record { fits = (id.0, name.0, shown.0); function = refl; tells = inl (id.1, (name.1, (shown.1, tt))) })
message_found one Snapshot (v ∷ node ∷ edits ∷ other ∷ more) m e = absurd (cc)
message_found one Cancel [] m e = absurd (cc)
message_found one Cancel (v ∷ []) m e =
    let a = stepped (id_at v) _ m e in
    let id = id_found_at v a.0 a.1 in
    told_as Cancel _ (asks.Cancel a.0) m a.2 (record { fits = id.0; function = refl; tells = inl (id.1, tt) })
message_found one Cancel (v ∷ w ∷ more) m e = absurd (cc)
message_found one RemoveVersions [] m e = absurd (cc)
message_found one RemoveVersions (v ∷ []) m e =
    let b = stepped (spelled v >>= items_in id_in) _ m e in
    let shown = data_found one id_in number_body IsId id_found v b.0 b.1 in
    told_as RemoveVersions _ (asks.RemoveVersions b.0) m b.2 (record { fits = shown.0; function = refl; tells = inl (shown.1, tt) })
message_found one RemoveVersions (v ∷ w ∷ more) m e = absurd (cc)
message_found one Settle [] m e = absurd (cc)
message_found one Settle (v ∷ []) m e =
    let a = stepped (id_at v) _ m e in
    let id = id_found_at v a.0 a.1 in
    told_as Settle _ (asks.Settle a.0) m a.2 (record { fits = id.0; function = refl; tells = inl (id.1, tt) })
message_found one Settle (v ∷ w ∷ more) m e = absurd (cc)
message_found one Protocol [] m e = absurd (cc)
message_found one Protocol (v ∷ []) m e =
    let a = stepped (number_of v >>= protocol_of) _ m e in
    told_as Protocol _ (asks.Protocol a.0) m a.2 (record { fits = tt; function = refl; tells = inl (protocol_found v a.0 a.1, tt) })
message_found one Protocol (v ∷ w ∷ more) m e = absurd (cc)
message_found one Claim [] m e = absurd (cc)
message_found one Claim (v ∷ []) m e =
    let a = stepped (number_of v >>= worker_of) _ m e in
    let w = worker_found v a.0 a.1 in
    told_as Claim _ (asks.Claim a.0) m a.2 (record { fits = w.0; function = refl; tells = inl (w.1, tt) })
message_found one Claim (v ∷ w ∷ more) m e = absurd (cc)
message_found one Finish [] m e = absurd (cc)
message_found one Finish (v ∷ []) m e =
    let a = stepped (number_of v >>= worker_of) _ m e in
    let w = worker_found v a.0 a.1 in
    told_as Finish _ (asks.Finish a.0) m a.2 (record { fits = w.0; function = refl; tells = inl (w.1, tt) })
message_found one Finish (v ∷ w ∷ more) m e = absurd (cc)
message_found one Theory [] m e = absurd (cc)
message_found one Theory (node ∷ []) m e = absurd (cc)
message_found one Theory (node ∷ text ∷ []) m e =
    let n = stepped (name_of node) _ m e in
    let t = stepped (scalars_of text) _ m n.2 in
    let name = name_sound node n.0 n.1 in
    let scalars = scalars_sound text t.0 t.1 in
    told_as Theory _ (asks.Theory n.0 t.0) m t.2 (record { fits = (name.0, scalars.0); function = refl; tells = inl (name.1, (scalars.1, tt)) })
message_found one Theory (node ∷ text ∷ other ∷ more) m e = absurd (cc)
