-- Updates name nodes by names of nodes.
use Rattle.std.proofs.Common.{◌≡◌, ℕ, Bool, true, false, List, [], ◌∷◌, map, Option, Some, None, Result, Ok, Err, refl, subst}
use Rattle.std.specs.Prelude.{if◌then◌else◌}
use Rattle.std.specs.Option.{option_map_or}
use Rattle.std.specs.Ordering.{is_gt, is_lt}
use Rattle.std.specs.List.{AllByRecursion}
use Rattle.text_words.proofs.KnownLists.{each-both, each-passing}
use Rattle.shared_map.specs.Pairs.{found}
use Rattle.shared_map.specs.Changes.{put, without}
use Rattle.shared_map.specs.Cuts.{at_key, before, behind}
use Rattle.doc_nodes.specs.Names.{in_order}
use Rattle.message_values.specs.declared.item.Change.{Change}
use Rattle.message_values.specs.declared.item.Change.TheVariants as change
use Rattle.message_values.specs.declared.item.Item.{Item}
use Rattle.message_values.specs.declared.refusal.Refusal.{Refusal}
use Rattle.message_values.specs.declared.refusal.Refusal.TheVariants.{NodeTwice, UnknownNode}
use Rattle.message_values.specs.Fits.{FitsItem}
use Rattle.buffer_rules.specs.declared.sheet.Document.{Document}
use Rattle.buffer_rules.specs.declared.sheet.Sheet.{Sheet}
use Rattle.buffer_rules.specs.Sheets.{SheetList, change_one, item_once, sheet_after, sheet_of}
use Rattle.buffer_rules.specs.Trying.{◌>>=◌, steps}
use Rattle.buffer_rules.specs.Updates.{Asked, BlobList, blobs_after, document_after, names_twice, sheets_after}
use Rattle.reply_messages.specs.Fits.{IsName}

-- the pair's key is a node's name
abbrev pub HasName : {A : Type 0} → List ℕ × A → Type 0
HasName pair = IsName pair.0

-- so for all
abbrev pub AllNamed : {A : Type 0} → List (List ℕ × A) → Type 0
AllNamed pairs = AllByRecursion HasName pairs

-- the names of pairs alone
pub keys_named : {A : Type 0} (pairs : List (List ℕ × A)) → AllNamed pairs
    → AllByRecursion IsName (map (λ pair. pair.0) pairs)
keys_named [] all = tt
keys_named (x ∷ xs) all = (all.0, keys_named xs all.1)

pub named_keys : {A : Type 0} (pairs : List (List ℕ × A)) → AllByRecursion IsName
    (map (λ pair. pair.0) pairs) → AllNamed pairs
named_keys [] all = tt
named_keys (x ∷ xs) all = (all.0, named_keys xs all.1)

put_named : (name : List ℕ) (sheet : Sheet) (sheets : SheetList) → IsName name → AllNamed sheets
    → AllNamed (put in_order (name, sheet) sheets)
put_named name sheet sheets is all =
    each-both HasName (before (at_key in_order name) sheets)
    ((name, sheet) ∷ behind (at_key in_order name) sheets)
    (each-passing HasName (λ pair. is_lt (at_key in_order name pair.0)) sheets all)
    (is, each-passing HasName (λ pair. is_gt (at_key in_order name pair.0)) sheets all)

without_named : (name : List ℕ) (sheets : SheetList) → AllNamed sheets
    → AllNamed (without in_order name sheets)
without_named name sheets all =
    each-both HasName (before (at_key in_order name) sheets) (behind (at_key in_order name) sheets)
    (each-passing HasName (λ pair. is_lt (at_key in_order name pair.0)) sheets all)
    (each-passing HasName (λ pair. is_gt (at_key in_order name pair.0)) sheets all)

change_named : (name : List ℕ) (c : Change) (sheets after : SheetList) → IsName name
    → AllNamed sheets → change_one name c sheets ≡ Ok after → AllNamed after
change_named name change.Close sheets after is all e = go (found in_order name sheets) e
  where
    go : (o : Option Sheet) → ◌≡◌ {A = Result SheetList Refusal}
        (option_map_or (λ (sheet : Sheet). Ok (without in_order name sheets)) o (Err UnknownNode))
        (Ok after) → AllNamed after
    go None e = absurd (cc)
    go (Some sheet) e = let same : without in_order name sheets ≡ after = cc in
        subst AllNamed same (without_named name sheets all)
change_named name (change.Edit edits told) sheets after is all e =
    go (sheet_after edits told (sheet_of name sheets)) e
  where
    go : (r : Result Sheet Refusal) → (r >>= λ sheet. Ok (put in_order (name, sheet) sheets))
        ≡ Ok after → AllNamed after
    go (Err reason) e = absurd (cc)
    go (Ok sheet) e = let same : put in_order (name, sheet) sheets ≡ after = cc in
        subst AllNamed same (put_named name sheet sheets is all)

items_named : (items : List Item) (sheets after : SheetList) → AllByRecursion FitsItem items
    → AllNamed sheets → steps item_once items sheets ≡ Ok after → AllNamed after
items_named [] sheets after fit all e = let same : sheets ≡ after = cc in subst AllNamed same all
items_named (i ∷ is) sheets after fit all e = go (item_once i sheets) refl e
    (λ middle. items_named is middle after fit.1)
  where
    go : (r : Result SheetList Refusal) → item_once i sheets ≡ r
        → (r >>= steps item_once is) ≡ Ok after
        → ((middle : SheetList) → AllNamed middle → steps item_once is middle ≡ Ok after
        → AllNamed after) → AllNamed after
    go (Err reason) one e rest = absurd (cc)
    go (Ok middle) one e rest = rest middle (change_named i.node i.change sheets middle fit.0.node
        all one) e

sheets_named : (items : List Item) (sheets after : SheetList) → AllByRecursion FitsItem items
    → AllNamed sheets → sheets_after items sheets ≡ Ok after → AllNamed after
sheets_named items sheets after fit all e = go (names_twice items) e
  where
    go : (b : Bool) → (if b then Err NodeTwice else steps item_once items sheets) ≡ Ok after
        → AllNamed after
    go true e = absurd (cc)
    go false e = items_named items sheets after fit all e

-- the sheets of the document after an update
pub document_named : (asked : Asked) (d after : Document) → AllByRecursion FitsItem asked.items
    → AllNamed d.sheets → document_after asked d ≡ Ok after
    → AllNamed after.sheets
document_named asked d after fit all e = go (sheets_after asked.items d.sheets) refl e
  where
    inner : (sheets : SheetList) (r : Result BlobList Refusal)
        → (r >>= λ blobs. Ok (record { sheets = sheets; blobs = blobs })) ≡ Ok after
        → AllNamed sheets → AllNamed after.sheets
    inner sheets (Err reason) e named = absurd (cc)
    inner sheets (Ok blobs) e named =
        let same : ◌≡◌ {A = Document} (record { sheets = sheets; blobs = blobs }) after = cc in
        subst (λ (x : Document). AllNamed x.sheets) same named

    go : (r : Result SheetList Refusal) → sheets_after asked.items d.sheets ≡ r
        → (r >>= λ sheets. blobs_after d.blobs [] asked.blobs d.blobs >>= λ blobs. Ok
        (record { sheets = sheets; blobs = blobs })) ≡ Ok after → AllNamed after.sheets
    go (Err reason) one e = absurd (cc)
    go (Ok sheets) one e = inner sheets (blobs_after d.blobs [] asked.blobs d.blobs) e
        (sheets_named asked.items d.sheets sheets fit all one)
