-- How many commands keep their evaluations (this project's own).
use Rattle.std.specs.Prelude.{◌≡◌, ℕ, suc, ◌==◌, Bool, true, false, not, ◌&&◌, if◌then◌else◌, List, ◌∷◌, slice_get, Option, Some, None}
use Rattle.shared_map.specs.Pairs.{found}
use Rattle.text_words.specs.Members.{has}
use Rattle.doc_nodes.specs.declared.node.Entry.{Entry}
use Rattle.doc_nodes.specs.Names.{in_order, equal}
use Rattle.exec_rules.specs.declared.row.Row.{Row}

-- the blobs of a version: pairs of a name and a text, in the order of names
abbrev pub BlobList : Type 0
BlobList = List (List ℕ × List ℕ)

-- both have no name or text, or the same
abbrev pub agree : Option (List ℕ) → Option (List ℕ) → Bool
agree None None = true
agree (Some x) (Some y) = equal x y
agree a b = false

-- the text of the blob that a command asks for, where both are there
abbrev pub blob_of : BlobList → Option (List ℕ) → Option (List ℕ)
blob_of blobs None = None
blob_of blobs (Some name) = found in_order name blobs

-- what keeping goes by: the blobs of the version before and of the new one, and what is cancelled
pub record Times : Type 0 where
  pub before : BlobList
  pub now : BlobList
  pub cancelled : List ℕ

-- a command asks for the same blob as one before, and finds the same text
abbrev pub same_blob : Times → Option (List ℕ) → Option (List ℕ) → Bool
same_blob times now before = agree now before
    && agree (blob_of times.now now) (blob_of times.before before)

-- a command can keep the evaluation of one that stood at its place before: it is that command, its
-- blob is the same, and the evaluation is not cancelled
abbrev pub keeps : Times → Entry → Entry → Row → Bool
keeps times now before row = (now.command == before.command)
    && (not (has times.cancelled row.evaluation) && same_blob times now.needs before.needs)

-- how many commands at the front keep their evaluations, beside the commands before and their rows
abbrev pub kept_count : Times → List Entry → List Entry → List Row → ℕ
kept_count times (e ∷ es) (b ∷ bs) (r ∷ rs) =
    if keeps times e b r then suc (kept_count times es bs rs) else 0
kept_count times es bs rs = 0

-- the command at a place can keep its evaluation
pub record KeepsAt (times : Times) (now before : List Entry) (rows : List Row) (i : ℕ)
    : Type 0 where
  pub command : Entry
  pub old : Entry
  pub row : Row
  pub stands : slice_get now i ≡ Some command
  pub stood : slice_get before i ≡ Some old
  pub had : slice_get rows i ≡ Some row
  pub keeping : keeps times command old row ≡ true
