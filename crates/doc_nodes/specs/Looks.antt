-- What a search for the next round keeps: marks of the ordered nodes, and how many of each node's
-- first imports were seen to be ordered (this project's own).
use Rattle.std.specs.Prelude.{◌≡◌, ℕ, ◌<◌, Bool, true, false, List, [], length, slice_index_or, Option, Some, None}
use Rattle.text_words.specs.Members.{has}

-- the place is marked
abbrev pub marked : List Bool → ℕ → Bool
marked marks p = slice_index_or marks p false

-- the import is a node that is marked
abbrev pub met_by : List Bool → Option ℕ → Bool
met_by marks None = false
met_by marks (Some p) = marked marks p

-- the imports of the node at a place
abbrev pub aims_at : List (List (Option ℕ)) → ℕ → List (Option ℕ)
aims_at rows p = slice_index_or rows p []

-- all imports of the node are ordered
abbrev pub AllMet : List (List (Option ℕ)) → List Bool → ℕ → Type 0
AllMet rows marks p = (q : ℕ) → q < length (aims_at rows p)
    → met_by marks (slice_index_or (aims_at rows p) q None) ≡ true

-- the imports that were looked at are ordered
abbrev pub Scanned : List (List (Option ℕ)) → List Bool → List ℕ → Type 0
Scanned rows marks looked = (p q : ℕ) → q < length (aims_at rows p) → q < slice_index_or looked p 0
    → met_by marks (slice_index_or (aims_at rows p) q None) ≡ true

-- the node is not ordered, and all its imports are
pub record IsDue (rows : List (List (Option ℕ))) (marks : List Bool) (p : ℕ) : Type 0 where
  pub in_range : p < length rows
  pub unordered : marked marks p ≡ false
  pub met : AllMet rows marks p

-- where it is due, the node was added, and nothing else was
pub record Offered (rows : List (List (Option ℕ))) (marks : List Bool) (node : ℕ)
    (old new : List ℕ) : Type 0 where
  pub kept : (p : ℕ) → has old p ≡ true → has new p ≡ true
  pub added : IsDue rows marks node → has new node ≡ true
  pub sound : (p : ℕ) → has new p ≡ true → has old p ≡ false → IsDue rows marks p

-- each of the nodes was offered
pub record OfferedAll (rows : List (List (Option ℕ))) (marks : List Bool)
    (nodes old new : List ℕ) : Type 0 where
  pub kept : (p : ℕ) → has old p ≡ true → has new p ≡ true
  pub added : (p : ℕ) → has nodes p ≡ true → IsDue rows marks p → has new p ≡ true
  pub sound : (p : ℕ) → has new p ≡ true → has old p ≡ false → IsDue rows marks p

-- the ordered nodes are marked, and no others
abbrev pub AreMarks : List Bool → List ℕ → Type 0
AreMarks marks ordered = (p : ℕ) → marked marks p ≡ has ordered p
