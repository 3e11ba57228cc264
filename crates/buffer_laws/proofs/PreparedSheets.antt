-- What an update prepares keeps the order of names, and is within the limits.
use Rattle.std.proofs.Common.{◌≡◌, ℕ, ◌+◌, Bool, true, false, ◌||◌, List, [], ◌∷◌, map, Option, Some, None, Result, Ok, Err, refl, ap, subst, ◌∙◌}
use Rattle.std.specs.Prelude.{if◌then◌else◌, nat_lt}
use Rattle.std.specs.Option.{option_map_or}
use Rattle.std.specs.Cmp.Lexicographic.{nat_list_cmp_total}
use Rattle.std.specs.declared.cmp.Ordering.TheVariants.{Less}
use Rattle.pide_base.specs.Ids.{id_end}
use Rattle.pide_base.specs.Limits.{most_live}
use Rattle.shared_map.specs.Pairs.{IsSorted, Each, found}
use Rattle.shared_map.specs.Changes.{put, without}
use Rattle.shared_map.proofs.KnownSorted.{IsSorted-put, IsSorted-without}
use Rattle.doc_nodes.specs.Names.{in_order}
use Rattle.buffer_rules.specs.message_values_below.declared.item.Change.{Change}
use Rattle.buffer_rules.specs.message_values_below.declared.item.Change.TheVariants as change
use Rattle.buffer_rules.specs.message_values_below.declared.item.Item.{Item}
use Rattle.buffer_rules.specs.message_values_below.declared.refusal.Refusal.{Refusal}
use Rattle.buffer_rules.specs.message_values_below.declared.refusal.Refusal.TheVariants.{NodeTwice, UnknownNode, Limit}
use Rattle.buffer_rules.specs.declared.sheet.Document.{Document}
use Rattle.buffer_rules.specs.declared.sheet.Sheet.{Sheet}
use Rattle.buffer_rules.specs.Trying.{◌>>=◌, steps}
use Rattle.buffer_rules.specs.Sheets.{SheetList, sheet_of, sheet_after, change_one, item_once}
use Rattle.buffer_rules.specs.Updates.{Asked, names_twice, sheets_after, blobs_after, document_after}
use Rattle.buffer_rules.specs.Nodes.{nodes_after}
use Rattle.buffer_rules.specs.Preparing.{Buffer, is_large, within_limits, prepared}

-- the keys of a list tell its order
pub same_keys : {V W : Type 0} (xs : List (List ℕ × V)) (ys : List (List ℕ × W)) → map (λ pair. pair.0) xs ≡ map (λ pair. pair.0) ys
    → IsSorted in_order ys → IsSorted in_order xs
same_keys [] ys e sorted = tt
same_keys (x ∷ xs) [] e sorted = absurd (cc)
same_keys (x ∷ xs) (y ∷ ys) e sorted =
    let first : x.0 ≡ y.0 = cc in
    let rest : map (λ (pair : List ℕ × _). pair.0) xs ≡ map (λ (pair : List ℕ × _). pair.0) ys = cc in
    (each x.0 y.0 first xs ys rest sorted.0, same_keys xs ys rest sorted.1)
  where
    each : (k l : List ℕ) → k ≡ l → {V W : Type 0} (xs : List (List ℕ × V)) (ys : List (List ℕ × W)) → map (λ pair. pair.0) xs ≡ map (λ pair. pair.0) ys
        → Each (λ other. in_order l other.0 ≡ Less) ys → Each (λ other. in_order k other.0 ≡ Less) xs
    each k l same [] ys e all = tt
    each k l same (x ∷ xs) [] e all = absurd (cc)
    each k l same (x ∷ xs) (y ∷ ys) e all =
        let first : x.0 ≡ y.0 = cc in
        let rest : map (λ (pair : List ℕ × _). pair.0) xs ≡ map (λ (pair : List ℕ × _). pair.0) ys = cc in
        (ap (λ n. in_order n x.0) same ∙ ap (in_order l) first ∙ all.0, each k l same xs ys rest all.1)

changed_sorted : (name : List ℕ) (c : Change) (sheets after : SheetList) → change_one name c sheets ≡ Ok after → IsSorted in_order sheets → IsSorted in_order after
changed_sorted name change.Close sheets after e sorted = go (found in_order name sheets) e
  where
    go : (o : Option Sheet) → option_map_or (λ sheet. Ok (without in_order name sheets)) o (Err UnknownNode) ≡ Ok after → IsSorted in_order after
    go None e = absurd (cc)
    go (Some sheet) e =
        let same : without in_order name sheets ≡ after = cc in subst (IsSorted in_order) same (IsSorted-without nat_list_cmp_total name sheets sorted)
changed_sorted name (change.Edit edits told) sheets after e sorted = go (sheet_after edits told (sheet_of name sheets)) e
  where
    go : (o : Result Sheet Refusal) → (o >>= λ sheet. Ok (put in_order (name, sheet) sheets)) ≡ Ok after → IsSorted in_order after
    go (Err reason) e = absurd (cc)
    go (Ok sheet) e =
        let same : put in_order (name, sheet) sheets ≡ after = cc in subst (IsSorted in_order) same (IsSorted-put nat_list_cmp_total (name, sheet) sheets sorted)

steps_sorted : (items : List Item) (sheets after : SheetList) → steps item_once items sheets ≡ Ok after → IsSorted in_order sheets → IsSorted in_order after
steps_sorted [] sheets after e sorted = let same : sheets ≡ after = cc in subst (IsSorted in_order) same sorted
steps_sorted (item ∷ items) sheets after e sorted = go (item_once item sheets) refl e (λ middle more is. steps_sorted items middle after more is)
  where
    go : (o : Result SheetList Refusal) → item_once item sheets ≡ o → (o >>= steps item_once items) ≡ Ok after
        → ((middle : SheetList) → steps item_once items middle ≡ Ok after → IsSorted in_order middle → IsSorted in_order after) → IsSorted in_order after
    go (Err reason) is e rest = absurd (cc)
    go (Ok middle) is e rest = rest middle e (changed_sorted item.node item.change sheets middle is sorted)

items_sorted : (items : List Item) (sheets after : SheetList) → sheets_after items sheets ≡ Ok after → IsSorted in_order sheets → IsSorted in_order after
items_sorted items sheets after e sorted = go (names_twice items) e
  where
    go : (b : Bool) → ◌≡◌ {A = Result SheetList Refusal} (if b then Err NodeTwice else steps item_once items sheets) (Ok after) → IsSorted in_order after
    go true e = absurd (cc)
    go false e = steps_sorted items sheets after e sorted

document_sorted : (asked : Asked) (before after : Document) → document_after asked before ≡ Ok after → IsSorted in_order before.sheets → IsSorted in_order after.sheets
document_sorted asked before after e sorted = go (sheets_after asked.items before.sheets) refl e
  where
    then_blobs : (sheets : SheetList) (o : Result _ Refusal) → (o >>= λ blobs. Ok (record { sheets = sheets; blobs = blobs })) ≡ Ok after
        → IsSorted in_order sheets → IsSorted in_order after.sheets
    then_blobs sheets (Err reason) e is = absurd (cc)
    then_blobs sheets (Ok blobs) e is =
        let same : record { sheets = sheets; blobs = blobs } ≡ after = cc in subst (λ (d : Document). IsSorted in_order d.sheets) same is

    go : (o : Result SheetList Refusal) → sheets_after asked.items before.sheets ≡ o
        → (o >>= λ sheets. blobs_after before.blobs [] asked.blobs before.blobs >>= λ blobs. Ok (record { sheets = sheets; blobs = blobs })) ≡ Ok after
        → IsSorted in_order after.sheets
    go (Err reason) is e = absurd (cc)
    go (Ok sheets) is e = then_blobs sheets (blobs_after before.blobs [] asked.blobs before.blobs) e (items_sorted asked.items before.sheets sheets is sorted)

-- what is prepared: a document within the limits, and its nodes
pub record Prepared (b after : Buffer) (asked : Asked) : Type 0 where
  pub sorted : IsSorted in_order b.document.sheets → IsSorted in_order after.document.sheets
  pub small : is_large after.document ≡ false
  pub nodes : after.nodes ≡ (nodes_after b.nodes after.document.sheets b.next).nodes
  pub next : after.next ≡ (nodes_after b.nodes after.document.sheets b.next).next

pub taken_apart : (b after : Buffer) (live : ℕ) (asked : Asked) → prepared b live asked ≡ Ok after → Prepared b after asked
taken_apart b after live asked e = go (document_after asked b.document) refl e
  where
    limits : (document : Document) → document_after asked b.document ≡ Ok document
        → (large over past : Bool) → is_large document ≡ large
        → ◌≡◌ {A = Result Buffer Refusal} (if large || over || past then Err Limit
        else Ok (record { document = document; nodes = (nodes_after b.nodes document.sheets b.next).nodes; next = (nodes_after b.nodes document.sheets b.next).next })) (Ok after)
        → Prepared b after asked
    limits document is true over past large e = absurd (cc)
    limits document is false true past large e = absurd (cc)
    limits document is false false true large e = absurd (cc)
    limits document is false false false large e =
        let same : record { document = document; nodes = (nodes_after b.nodes document.sheets b.next).nodes; next = (nodes_after b.nodes document.sheets b.next).next } ≡ after = cc in
        subst (λ x. Prepared b x asked) same (record {
          sorted = document_sorted asked b.document document is;
          small = large;
          nodes = refl;
          next = refl;
        })

    go : (o : Result Document Refusal) → document_after asked b.document ≡ o
        → (o >>= λ document. within_limits live document (nodes_after b.nodes document.sheets b.next)) ≡ Ok after → Prepared b after asked
    go (Err reason) is e = absurd (cc)
    go (Ok document) is e =
        limits document is (is_large document) (nat_lt most_live (live + 1)) (nat_lt id_end (nodes_after b.nodes document.sheets b.next).next) refl e
