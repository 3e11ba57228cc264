-- What an update makes of a document, or why it is refused (this project's own).
use Rattle.std.specs.Prelude.{ℕ, Bool, false, ◌||◌, ◌&&◌, if◌then◌else◌, List, [], ◌∷◌, map, Option, Some, None, Result, Ok, Err}
use Rattle.std.specs.Option.{is_none}
use Rattle.std.specs.List.{list_any}
use Rattle.shared_map.specs.Pairs.{found}
use Rattle.shared_map.specs.Changes.{put, without}
use Rattle.doc_nodes.specs.Names.{in_order, equal}
use Rattle.message_values.specs.declared.item.Item.{Item}
use Rattle.message_values.specs.declared.item.BlobChange.{BlobChange}
use Rattle.message_values.specs.declared.refusal.Refusal.{Refusal}
use Rattle.message_values.specs.declared.refusal.Refusal.TheVariants.{NodeTwice, BlobTwice, UnknownBlob}
use Rattle.buffer_rules.specs.declared.sheet.Document.{Document}
use Rattle.buffer_rules.specs.Trying.{◌>>=◌, steps}
use Rattle.buffer_rules.specs.Sheets.{SheetList, item_once}

-- the blobs of a document: pairs of a name and a text, in the order of names
abbrev pub BlobList : Type 0
BlobList = List (List ℕ × List ℕ)

-- what an update asks: items in their order, and changes of blobs in theirs
pub record Asked : Type 0 where
  pub items : List Item
  pub blobs : List BlobChange

-- the name is among these
abbrev pub is_among : List (List ℕ) → List ℕ → Bool
is_among names name = list_any (equal name) names

-- some name comes twice
abbrev pub has_twice : List (List ℕ) → Bool
has_twice [] = false
has_twice (name ∷ names) = is_among names name || has_twice names

-- two items that name one node
abbrev pub names_twice : List Item → Bool
names_twice items = has_twice (map (λ item. item.node) items)

-- the items, one after the other, where no two name one node
abbrev pub sheets_after : List Item → SheetList → Result SheetList Refusal
sheets_after items sheets =
    if names_twice items then Err NodeTwice else steps item_once items sheets

-- one change of a blob
abbrev pub blob_once : List ℕ → Option (List ℕ) → BlobList → BlobList
blob_once name None blobs = without in_order name blobs
blob_once name (Some text) blobs = put in_order (name, text) blobs

-- a blob is removed that the document before the update hasn't
abbrev pub removes_none : BlobList → BlobChange → Bool
removes_none before change = is_none change.text && is_none (found in_order change.name before)

-- the changes of blobs in their order, behind those of some names: one of a name that came, and
-- then one that removes nothing, is refused
abbrev pub blobs_after : BlobList → List (List ℕ) → List BlobChange → BlobList
    → Result BlobList Refusal
blobs_after before came [] blobs = Ok blobs
blobs_after before came (change ∷ changes) blobs =
    if is_among came change.name then Err BlobTwice
    else if removes_none before change then Err UnknownBlob
    else blobs_after before (change.name ∷ came) changes (blob_once change.name change.text blobs)

-- the document after the update: the items, then the blobs
abbrev pub document_after : Asked → Document → Result Document Refusal
document_after asked before = sheets_after asked.items before.sheets >>= λ sheets.
    blobs_after before.blobs [] asked.blobs before.blobs >>= λ blobs.
    Ok (record { sheets = sheets; blobs = blobs })
