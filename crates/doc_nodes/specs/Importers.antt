-- The importers of each node, as lists of places.
use Rattle.std.specs.Prelude.{◌≡◌, ℕ, ◌<◌, true, false, List, [], length, slice_index_or, Option, Some, None}
use Rattle.text_words.specs.Members.{has}
use Rattle.doc_nodes.specs.Looks.{aims_at}

-- the importers of the node at a place
abbrev pub list_at : List (List ℕ) → ℕ → List ℕ
list_at lists p = slice_index_or lists p []

-- each node stands in the list of each of its imports
pub record AreImporters (rows : List (List (Option ℕ))) (lists : List (List ℕ)) : Type 0 where
  pub as_many : length lists ≡ length rows
  pub complete : (i q p : ℕ) → i < length rows → q < length (aims_at rows i)
      → slice_index_or (aims_at rows i) q None ≡ Some p → p < length rows
      → has (list_at lists p) i ≡ true
  pub within : (p i : ℕ) → has (list_at lists p) i ≡ true → i < length rows

-- the node was added to the list at the place, and nothing else
pub record Adds (place node : ℕ) (old new : List (List ℕ)) : Type 0 where
  pub kept : (p i : ℕ) → has (list_at old p) i ≡ true → has (list_at new p) i ≡ true
  pub added : place < length old → has (list_at new place) node ≡ true
  pub sound : (p i : ℕ) → has (list_at new p) i ≡ true → has (list_at old p) i ≡ false → i ≡ node

-- the node was added to the lists of all its imports
pub record AddsAll (aims : List (Option ℕ)) (node : ℕ) (old new : List (List ℕ)) : Type 0 where
  pub kept : (p i : ℕ) → has (list_at old p) i ≡ true → has (list_at new p) i ≡ true
  pub added : (q p : ℕ) → q < length aims → slice_index_or aims q None ≡ Some p → p < length old
      → has (list_at new p) node ≡ true
  pub sound : (p i : ℕ) → has (list_at new p) i ≡ true → has (list_at old p) i ≡ false → i ≡ node
