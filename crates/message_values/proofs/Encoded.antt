-- Items and blobs: found where they are encoded.
use Rattle.std.proofs.Common.{◌≡◌, ℕ, ◌==◌, true, false, Bool, if◌then◌else◌, List, [], ◌∷◌, map, Option, Some, None, option_map, refl, ap, subst, ◌∙◌, lit<}
use Rattle.std.proofs.lemmas.Bool.{eqb-true}
use Rattle.yxml.specs.declared.tree.Tree.{Tree}
use Rattle.xml_codec.specs.Data.{string_body, bool_body, pair_body, list_body, option_body, variant_body}
use Rattle.pide_base.specs.declared.range.Range.{Range}
use Rattle.message_values.specs.declared.variant.Variant.{Variant}
use Rattle.message_values.specs.ShapeBodies.{text_body, range_body, edit_body}
use Rattle.message_values.specs.Each.{◌>>=◌}
use Rattle.message_values.specs.FitsShapes.{IsText, FitsRange, FitsEdit}
use Rattle.message_values.specs.Shapes.{pair_in, bool_in, variant_in, items_in, optional_in}
use Rattle.message_values.specs.Words.{name_in, text_in, range_in, edit_in}
use Rattle.message_values.proofs.KnownFinds.{pair_complete, bool_complete, variant_complete}
use Rattle.message_values.proofs.KnownFound.{pair_sound, bool_sound, variant_sound}
use Rattle.message_values.proofs.KnownItems.{items_found, items_find, optional_found, optional_finds}
use Rattle.message_values.proofs.KnownSteps.{stepped}
use Rattle.message_values.proofs.KnownEdits.{edit_found, edit_finds}
use Rattle.message_values.proofs.KnownWords.{name_found, name_finds, text_found_in, text_finds, range_found, range_finds}
use Rattle.message_values.specs.declared.item.Perspective.{Perspective}
use Rattle.message_values.specs.declared.item.Change.{Change}
use Rattle.message_values.specs.declared.item.Change.TheVariants.{Edit, Close}
use Rattle.message_values.specs.declared.item.Item.{Item}
use Rattle.message_values.specs.declared.item.BlobChange.{BlobChange}
use Rattle.message_values.specs.Bodies.{perspective_body, change_body, item_body, blob_body}
use Rattle.message_values.specs.Fits.{FitsPerspective, FitsChange, FitsItem, FitsBlob}
use Rattle.message_values.specs.Items.{perspective_in, edited_in, closed_in, change_of, change_in, item_in, blob_in}

perspective_found : (body : List Tree) (p : Perspective) → perspective_in body ≡ Some p → FitsPerspective p × (body ≡ perspective_body p)
perspective_found body p e =
    let parts = stepped (pair_in body) _ p e in
    let r = stepped (bool_in parts.0.0) _ p parts.2 in
    let s = stepped (items_in range_in parts.0.1) _ p r.2 in
    let ranges = items_found range_in range_body FitsRange range_found parts.0.1 s.0 s.1 in
    let made : Perspective = record { required = r.0; ranges = s.0 } in
    let is : Some made ≡ Some p = s.2 in
    let same : made ≡ p = cc in
    subst (λ q. FitsPerspective q × (body ≡ perspective_body q)) same
    (ranges.0, pair_sound body parts.0.0 parts.0.1 parts.1 ∙ ap (λ x. pair_body x parts.0.1) (bool_sound parts.0.0 r.0 r.1) ∙ ap (pair_body (bool_body r.0)) ranges.1)

abbrev perspective_made : Bool → List Range → Perspective
perspective_made required ranges = record { required = required; ranges = ranges }

perspective_finds : (p : Perspective) → FitsPerspective p → perspective_in (perspective_body p) ≡ Some p
perspective_finds p fits =
    let ranges = list_body (map range_body p.ranges) in
    ap (λ (o : Option (List Tree × List Tree)). o >>= λ q. bool_in q.0 >>= λ r. items_in range_in q.1 >>= λ rs. Some (perspective_made r rs)) (pair_complete (bool_body p.required) ranges)
    ∙ ap (λ o. o >>= λ r. items_in range_in ranges >>= λ rs. Some (perspective_made r rs)) (bool_complete p.required)
    ∙ ap (λ o. o >>= λ rs. Some (perspective_made p.required rs)) (items_find range_in range_body FitsRange range_finds p.ranges fits)

edited_found : (body : List Tree) (c : Change) → edited_in body ≡ Some c → FitsChange c × (variant_body 0 [] body ≡ change_body c)
edited_found body c e =
    let parts = stepped (pair_in body) _ c e in
    let s = stepped (items_in edit_in parts.0.0) _ c parts.2 in
    let o = stepped (optional_in perspective_in parts.0.1) _ c s.2 in
    let edits = items_found edit_in edit_body FitsEdit edit_found parts.0.0 s.0 s.1 in
    let perspective = optional_found perspective_in perspective_body FitsPerspective perspective_found parts.0.1 o.0 o.1 in
    let same : Edit s.0 o.0 ≡ c = cc in
    subst (λ d. FitsChange d × (variant_body 0 [] body ≡ change_body d)) same
    ((edits.0, perspective.0), ap (variant_body 0 []) (pair_sound body parts.0.0 parts.0.1 parts.1 ∙ ap (λ x. pair_body x parts.0.1) edits.1 ∙ ap (pair_body (list_body (map edit_body s.0))) perspective.1))

closed_found : (body : List Tree) (c : Change) → closed_in body ≡ Some c → FitsChange c × (variant_body 1 [] body ≡ change_body c)
closed_found [] c e = let same : Close ≡ c = cc in subst (λ d. FitsChange d × (variant_body 1 [] [] ≡ change_body d)) same (tt, refl)
closed_found (t ∷ ts) c e = absurd (cc)

kind_found : (kind : ℕ) (values : List (List ℕ)) (body : List Tree) (c : Change) → change_of kind values body ≡ Some c
    → FitsChange c × (variant_body kind values body ≡ change_body c)
kind_found kind (value ∷ values) body c e = absurd (cc)
kind_found kind [] body c e = go (kind == 0) (kind == 1) refl refl e where
  go : (zero one : Bool) → (kind == 0) ≡ zero → (kind == 1) ≡ one → (if zero then edited_in body else if one then closed_in body else None) ≡ Some c
      → FitsChange c × (variant_body kind [] body ≡ change_body c)
  go true one z o h = let k = edited_found body c h in (k.0, ap (λ i. variant_body i [] body) (eqb-true kind 0 z) ∙ k.1)
  go false true z o h = let k = closed_found body c h in (k.0, ap (λ i. variant_body i [] body) (eqb-true kind 1 o) ∙ k.1)
  go false false z o h = absurd (cc)

change_found : (body : List Tree) (c : Change) → change_in body ≡ Some c → FitsChange c × (body ≡ change_body c)
change_found body c e =
    let v = stepped (variant_in body) _ c e in
    let k = kind_found v.0.index v.0.values v.0.argument c v.2 in
    (k.0, (variant_sound body v.0 v.1).same ∙ k.1)

change_finds : (c : Change) → FitsChange c → change_in (change_body c) ≡ Some c
change_finds Close fits = ap (λ (o : Option Variant). o >>= λ v. change_of v.index v.values v.argument) (variant_complete (record { index = 1; values = []; argument = [] }) (lit< tt))
change_finds (Edit edits perspective) fits =
    let one = list_body (map edit_body edits) in
    let other = option_body (option_map perspective_body perspective) in
    ap (λ (o : Option Variant). o >>= λ v. change_of v.index v.values v.argument) (variant_complete (record { index = 0; values = []; argument = pair_body one other }) (lit< tt))
    ∙ ap (λ (o : Option (List Tree × List Tree)). o >>= λ p. items_in edit_in p.0 >>= λ es. optional_in perspective_in p.1 >>= λ q. Some (Edit es q)) (pair_complete one other)
    ∙ ap (λ o. o >>= λ es. optional_in perspective_in other >>= λ q. Some (Edit es q)) (items_find edit_in edit_body FitsEdit edit_finds edits fits.0)
    ∙ ap (λ o. o >>= λ q. Some (Edit edits q)) (optional_finds perspective_in perspective_body FitsPerspective perspective_finds perspective fits.1)

pub item_found : (body : List Tree) (i : Item) → item_in body ≡ Some i → FitsItem i × (body ≡ item_body i)
item_found body i e =
    let parts = stepped (pair_in body) _ i e in
    let n = stepped (name_in parts.0.0) _ i parts.2 in
    let d = stepped (change_in parts.0.1) _ i n.2 in
    let node = name_found parts.0.0 n.0 n.1 in
    let change = change_found parts.0.1 d.0 d.1 in
    let made : Item = record { node = n.0; change = d.0 } in
    let is : Some made ≡ Some i = d.2 in
    let same : made ≡ i = cc in
    let fits : FitsItem made = record { node = node.0; change = change.0 } in
    subst (λ j. FitsItem j × (body ≡ item_body j)) same
    (fits, pair_sound body parts.0.0 parts.0.1 parts.1 ∙ ap (λ x. pair_body x parts.0.1) node.1 ∙ ap (pair_body (string_body n.0)) change.1)

abbrev item_made : List ℕ → Change → Item
item_made node change = record { node = node; change = change }

pub item_finds : (i : Item) → FitsItem i → item_in (item_body i) ≡ Some i
item_finds i fits =
    ap (λ (o : Option (List Tree × List Tree)). o >>= λ p. name_in p.0 >>= λ n. change_in p.1 >>= λ c. Some (item_made n c)) (pair_complete (string_body i.node) (change_body i.change))
    ∙ ap (λ o. o >>= λ n. change_in (change_body i.change) >>= λ c. Some (item_made n c)) (name_finds i.node fits.node)
    ∙ ap (λ o. o >>= λ c. Some (item_made i.node c)) (change_finds i.change fits.change)

pub blob_found : (body : List Tree) (b : BlobChange) → blob_in body ≡ Some b → FitsBlob b × (body ≡ blob_body b)
blob_found body b e =
    let parts = stepped (pair_in body) _ b e in
    let n = stepped (name_in parts.0.0) _ b parts.2 in
    let t = stepped (optional_in text_in parts.0.1) _ b n.2 in
    let name = name_found parts.0.0 n.0 n.1 in
    let text = optional_found text_in text_body IsText text_found_in parts.0.1 t.0 t.1 in
    let made : BlobChange = record { name = n.0; text = t.0 } in
    let is : Some made ≡ Some b = t.2 in
    let same : made ≡ b = cc in
    let fits : FitsBlob made = record { name = name.0; text = text.0 } in
    subst (λ j. FitsBlob j × (body ≡ blob_body j)) same
    (fits, pair_sound body parts.0.0 parts.0.1 parts.1 ∙ ap (λ x. pair_body x parts.0.1) name.1 ∙ ap (pair_body (string_body n.0)) text.1)

abbrev blob_made : List ℕ → Option (List ℕ) → BlobChange
blob_made name text = record { name = name; text = text }

pub blob_finds : (b : BlobChange) → FitsBlob b → blob_in (blob_body b) ≡ Some b
blob_finds b fits =
    let text = option_body (option_map text_body b.text) in
    ap (λ (o : Option (List Tree × List Tree)). o >>= λ p. name_in p.0 >>= λ n. optional_in text_in p.1 >>= λ t. Some (blob_made n t)) (pair_complete (string_body b.name) text)
    ∙ ap (λ o. o >>= λ n. optional_in text_in text >>= λ t. Some (blob_made n t)) (name_finds b.name fits.name)
    ∙ ap (λ o. o >>= λ t. Some (blob_made b.name t)) (optional_finds text_in text_body IsText text_finds b.text fits.text)
