-- Updates of small documents that are refused, and perspectives, computed (this project's own).
use Rattle.std.specs.Prelude.{◌≡◌, ℕ, Bool, true, false, List, [], ◌∷◌, map, codes, Option, Some, None}
use Rattle.pide_base.specs.declared.range.Range.{Range}
use Rattle.text_edits.specs.declared.edit.Edit.TheVariants.{Insert, Remove}
use Rattle.message_values.specs.declared.item.Change.TheVariants as change
use Rattle.message_values.specs.declared.item.Item.{Item}
use Rattle.message_values.specs.declared.item.BlobChange.{BlobChange}
use Rattle.message_values.specs.declared.refusal.Refusal.{Refusal}
use Rattle.message_values.specs.declared.refusal.Refusal.TheVariants.{NodeTwice, UnknownNode, EditOutOfRange, RemoveDiffers, PerspectiveOutOfRange, Limit, BlobTwice, UnknownBlob}
use Rattle.buffer_rules.specs.Preparing.{Buffer, prepared, empty_buffer}
use Rattle.buffer_rules.specs.Examples.{opens, edits, shows, closes, sees, range, then, accepted, refusal_of, refused}
use Rattle.buffer_rules.specs.Worked.{three_axioms, one_lemma}

-- an edit that is out of range in a text of 51 scalars
abbrev pub far : Item
far = edits (codes "A") (Insert 52 (codes "x") ∷ [])

-- an edit that removes another text
abbrev pub other : Item
other = edits (codes "A") (Remove 0 (codes "x") ∷ [])

-- a perspective that ends past the text
abbrev pub wide : Item
wide = shows (codes "A") (sees 0 52)

-- a perspective that ends past the text, but for an edit before it
abbrev pub grown : Item
grown = record { node = codes "A"; change = change.Edit (Insert 51 (codes " ") ∷ []) (sees 0 52) }

-- the reasons, each by itself; and the first of two, by the order of items
pub record ItemsRefused : Type 0 where
  pub twice : refused one_lemma (opens (codes "A") [] ∷ opens (codes "A") [] ∷ []) ≡ Some NodeTwice
  pub reopened : refused one_lemma (closes (codes "A") ∷ opens (codes "A") [] ∷ []) ≡ Some NodeTwice
  pub before : refused one_lemma (closes (codes "Z") ∷ far ∷ far ∷ []) ≡ Some NodeTwice
  pub unknown : refused one_lemma (closes (codes "Z") ∷ []) ≡ Some UnknownNode
  pub out : refused one_lemma (far ∷ []) ≡ Some EditOutOfRange
  pub differs : refused one_lemma (other ∷ []) ≡ Some RemoveDiffers
  pub past : refused one_lemma (wide ∷ []) ≡ Some PerspectiveOutOfRange
  pub after_edits : refused one_lemma (grown ∷ []) ≡ None
  pub first : refused one_lemma (far ∷ closes (codes "Z") ∷ []) ≡ Some EditOutOfRange
  pub other_first : refused one_lemma (closes (codes "Z") ∷ far ∷ []) ≡ Some UnknownNode

-- a blob that is set
abbrev pub set : List ℕ → BlobChange
set name = record { name = name; text = Some (codes "a: P") }

-- a blob that is removed
abbrev pub removed : List ℕ → BlobChange
removed name = record { name = name; text = None }

-- why these items and blobs are refused
abbrev pub of_blobs : Buffer → List Item → List BlobChange → Option Refusal
of_blobs buffer items blobs =
    refusal_of (prepared buffer 0 (record { items = items; blobs = blobs }))

-- blobs come behind the items, in their own order
pub record BlobsRefused : Type 0 where
  pub twice : of_blobs empty_buffer [] (set (codes "x") ∷ set (codes "x") ∷ []) ≡ Some BlobTwice
  pub unknown : of_blobs empty_buffer [] (removed (codes "z") ∷ []) ≡ Some UnknownBlob
  pub unknown_first : of_blobs empty_buffer [] (removed (codes "z") ∷ removed (codes "z") ∷ [])
      ≡ Some UnknownBlob
  pub twice_first : of_blobs empty_buffer [] (set (codes "z") ∷ removed (codes "z") ∷ []) ≡ Some
      BlobTwice
  pub items_first : of_blobs empty_buffer (closes (codes "Z") ∷ []) (removed (codes "z") ∷ [])
      ≡ Some UnknownNode

-- the limit on live versions comes last
pub record TooManyVersions : Type 0 where
  pub one_less : refusal_of (prepared empty_buffer 63 (record { items = []; blobs = [] })) ≡ None
  pub limit : refusal_of (prepared empty_buffer 64 (record { items = []; blobs = [] })) ≡ Some
      Limit
  pub last : refusal_of (prepared one_lemma 64 (record { items = far ∷ []; blobs = [] }))
      ≡ Some EditOutOfRange

-- which commands are seen
abbrev pub seen_in : Buffer → List (List Bool)
seen_in buffer = map (λ pair. map (λ e. e.visible) pair.1.entries) buffer.nodes

-- the ranges that are kept
abbrev pub ranges_in : Buffer → List (List Range)
ranges_in buffer = map (λ pair. pair.1.ranges) buffer.document.sheets

-- the first two commands of three axioms are seen
abbrev pub watched : Buffer
watched = then three_axioms (shows (codes "A") (sees 0 27) ∷ [])

-- a range is moved by edits, and dropped where nothing of it is left; a new perspective replaces it
pub record Perspectives : Type 0 where
  pub two : seen_in watched ≡ (true ∷ true ∷ false ∷ false ∷ false ∷ []) ∷ []
  pub moved : ranges_in (then watched (edits (codes "A") (Insert 0 (codes "  ") ∷ []) ∷ []))
      ≡ (range 2 29 ∷ []) ∷ []
  pub dropped : ranges_in (then watched (edits (codes "A")
      (Remove 0 (codes "theory A begin axiom a: \"P\" ") ∷ []) ∷ []))
      ≡ [] ∷ []
  pub replaced : seen_in (then watched (shows (codes "A") (sees 28 29) ∷ []))
      ≡ (false ∷ false ∷ true ∷ false ∷ false ∷ []) ∷ []

-- a node that loads a blob
abbrev pub loading : Buffer
loading = accepted empty_buffer (prepared empty_buffer 0
    (record {
      items = opens (codes "A") (codes "theory A begin load \"x\" end") ∷ [];
      blobs = set (codes "x") ∷ [];
    }))

-- which command asks for which blob
pub record ALoad : Type 0 where
  pub asked : map (λ pair. map (λ e. e.needs) pair.1.entries) loading.nodes
      ≡ (None ∷ Some (codes "x") ∷ None ∷ []) ∷ []
  pub there : loading.document.blobs ≡ (codes "x", codes "a: P") ∷ []
