-- A message whose parts are tested is made where the tests say yes.
use Rattle.std.proofs.Common.{◌≡◌, ◌&&◌, ℕ, true, Bool, List, [], ◌∷◌, map, length, Some, decimal, refl, ap, ◌∙◌}
use Rattle.std.specs.List.{AllByRecursion}
use Rattle.std.proofs.lemmas.Bool.{and_from}
use Rattle.pide_base.specs.Ids.{IsId}
use Rattle.message_values.specs.Each.{◌>>=◌}
use Rattle.message_values.specs.Shapes.{items_in}
use Rattle.message_values.specs.declared.editor_message.EditorMessage.{EditorMessage}
use Rattle.message_values.specs.declared.editor_message.EditorMessage.TheVariants as asks
use Rattle.message_values.specs.declared.item.BlobChange.{BlobChange}
use Rattle.message_values.specs.declared.item.Item.{Item}
use Rattle.message_values.specs.Asked.{spelled, is_there, all_yes, data_arguments, id_at, message_of}
use Rattle.message_values.specs.Bodies.{item_body, blob_body}
use Rattle.message_values.specs.Fits.{FitsItem, FitsBlob}
use Rattle.message_values.specs.Functions.{takes}
use Rattle.message_values.specs.Items.{item_in, blob_in}
use Rattle.message_values.specs.Spelled.{list_of, Tells, function_of}
use Rattle.message_values.proofs.Encoded.{item_finds, blob_finds}
use Rattle.message_values.proofs.Telling.{OneAnswer, data_finds, id_finds_at}

-- a message is made of these arguments
pub record IsMade (m : EditorMessage) (arguments : List (List ℕ)) : Type 0 where
  pub takes : takes (function_of m) (length arguments) ≡ true
  pub yxml : all_yes (map (λ text. is_there (spelled text)) (data_arguments (function_of m) arguments)) ≡ true
  pub made : message_of (function_of m) arguments ≡ Some m

pub one_yes : (b : Bool) → b ≡ true → all_yes (b ∷ []) ≡ true
one_yes b h = and_from b true h refl

two_yes : (b c : Bool) → b ≡ true → c ≡ true → all_yes (b ∷ c ∷ []) ≡ true
two_yes b c h k = and_from b (c && true) h (one_yes c k)

pub update_made : OneAnswer → (v : List ℕ) (n : ℕ) (text : List ℕ) (is : List Item) → IsId n → v ≡ decimal n → AllByRecursion FitsItem is → Tells (list_of item_body is) text
    → IsMade (asks.Update n is []) (v ∷ text ∷ [])
update_made one v n text is id same fits tells =
    let shown = data_finds one item_in item_body FitsItem item_finds text is fits tells in
    record {
      takes = refl;
      yxml = one_yes _ shown.there;
      made = ap (λ t. id_at t >>= λ k. (spelled text >>= items_in item_in) >>= λ xs. Some (asks.Update k xs [])) same
          ∙ ap (λ o. o >>= λ k. (spelled text >>= items_in item_in) >>= λ xs. Some (asks.Update k xs [])) (id_finds_at n id)
          ∙ ap (λ o. o >>= λ xs. Some (asks.Update n xs [])) shown.read;
    }

pub blobs_made : OneAnswer → (v : List ℕ) (n : ℕ) (text other : List ℕ) (is : List Item) (bs : List BlobChange) → IsId n → v ≡ decimal n → AllByRecursion FitsItem is → Tells (list_of item_body is) text
    → AllByRecursion FitsBlob bs → Tells (list_of blob_body bs) other → IsMade (asks.Update n is bs) (v ∷ text ∷ other ∷ [])
blobs_made one v n text other is bs id same fits tells blobs too =
    let shown = data_finds one item_in item_body FitsItem item_finds text is fits tells in
    let more = data_finds one blob_in blob_body FitsBlob blob_finds other bs blobs too in
    record {
      takes = refl;
      yxml = two_yes _ _ shown.there more.there;
      made = ap (λ t. id_at t >>= λ k. (spelled text >>= items_in item_in) >>= λ xs. (spelled other >>= items_in blob_in) >>= λ ys. Some (asks.Update k xs ys)) same
          ∙ ap (λ o. o >>= λ k. (spelled text >>= items_in item_in) >>= λ xs. (spelled other >>= items_in blob_in) >>= λ ys. Some (asks.Update k xs ys)) (id_finds_at n id)
          ∙ ap (λ o. o >>= λ xs. (spelled other >>= items_in blob_in) >>= λ ys. Some (asks.Update n xs ys)) shown.read
          ∙ ap (λ o. o >>= λ ys. Some (asks.Update n is ys)) more.read;
    }
