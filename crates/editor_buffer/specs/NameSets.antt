-- Sets of names, and what changes of blobs are told of (this project's own).
use Rattle.std.specs.Prelude.{◌≡◌, ◌↔◌, ℕ, false, List, is_some}
use Rattle.shared_map.specs.Pairs.{found}
use Rattle.doc_nodes.specs.Names.{in_order}
use Rattle.buffer_rules.specs.Updates.{BlobList, is_among}

-- a set of names, in order
abbrev pub NameSet : Type 0
NameSet = List (List ℕ × Unit {0})

-- the set has these names and no others
abbrev pub AreNames : NameSet → List (List ℕ) → Type 0
AreNames set names = (name : List ℕ) → is_some (found in_order name set) ≡ is_among names name

-- the set has the names whose blobs differ in two documents: one in one of them alone counts
abbrev pub AreChanged : NameSet → BlobList → BlobList → Type 0
AreChanged set before now = (name : List ℕ)
    → (is_some (found in_order name set) ≡ false)
    ↔ (found in_order name now ≡ found in_order name before)
