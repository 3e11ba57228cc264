-- Two versions beside each other: one, and one that an update made of it (this project's own).
use Rattle.std.specs.Prelude.{◌≡◌, ℕ, Bool, true, false, List, slice_get, Option, Some}
use Rattle.std.specs.Option.{option_map, option_map_or, option_and_then}
use Rattle.text_words.specs.Members.{has}
use Rattle.doc_nodes.specs.Looks.{marked}
use Rattle.doc_nodes.specs.Imports.{NodeList, place_of}
use Rattle.exec_rules.specs.declared.row.Row.{Row}
use Rattle.exec_rules.specs.declared.version.Version.{Version}
use Rattle.exec_rules.specs.Assigning.{entries_in, rows_in}
use Rattle.exec_rules.specs.Listed.{executions}
use Rattle.exec_assign.specs.Fitting.{RowsFit}
use Rattle.core_rules.specs.Assigned.{assigns}
use Rattle.core_rules.specs.Placed.{RowOf}

-- the node of a name is one of these, and marked
abbrev pub is_marked : List Bool → NodeList → List ℕ → Bool
is_marked marks nodes name = option_map_or (marked marks) (place_of nodes name) false

-- the node of a name has the commands and the rows that it had
pub record HasStayed (before now : Version) (name : List ℕ) : Type 0 where
  pub entries : entries_in now name ≡ entries_in before name
  pub rows : rows_in now name ≡ rows_in before name

-- so have the nodes that are marked, in the order of names
abbrev pub HaveStayed : Version → Version → List Bool → Type 0
HaveStayed before now marks =
    (name : List ℕ) → is_marked marks now.nodes name ≡ true → HasStayed before now name

-- each execution that is assigned stands in a row of a node
abbrev pub HavePlaces : Version → Type 0
HavePlaces version = (e : ℕ) → assigns version e ≡ true → RowOf version e

-- an execution stands in one row of one node
abbrev pub StandOnce : Version → Type 0
StandOnce version = (name other : List ℕ) (i j e : ℕ) (r s : Row)
    → slice_get (rows_in version name) i ≡ Some r → slice_get (rows_in version other) j ≡ Some s
    → has (executions r) e ≡ true → has (executions s) e ≡ true → (name ≡ other) × (i ≡ j)

-- the executions of a row that the version before assigns are those of this row of it
pub record HasKept (before : Version) (old : Option Row) (row : Row) : Type 0 where
  pub evaluation : assigns before row.evaluation ≡ true
      → option_map (λ r. r.evaluation) old ≡ Some row.evaluation
  pub print : (q : ℕ) → row.print ≡ Some q → assigns before q ≡ true
      → option_and_then (λ r. r.print) old ≡ Some q

-- what both versions assign stands in the same row of the node of the same name
abbrev pub KeepsPlaces : Version → Version → Type 0
KeepsPlaces before now = (name : List ℕ) (i : ℕ) (row : Row)
    → slice_get (rows_in now name) i ≡ Some row
    → HasKept before (slice_get (rows_in before name) i) row

-- a version follows another one, of which the nodes that are marked stand
pub record Follows (before now : Version) (marks : List Bool) : Type 0 where
  pub stayed : HaveStayed before now marks
  pub had_places : HavePlaces before
  pub have_places : HavePlaces now
  pub stood_once : StandOnce before
  pub stand_once : StandOnce now
  pub keeps : KeepsPlaces before now
  pub fits : RowsFit now
