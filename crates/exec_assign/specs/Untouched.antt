-- What an update leaves alone (this project's own).
use Rattle.std.specs.Prelude.{◌≡◌, ℕ, Bool, true, false, not, List, slice_get, is_some, Some}
use Rattle.shared_map.specs.Pairs.{found}
use Rattle.text_words.specs.Members.{has}
use Rattle.doc_nodes.specs.Looks.{marked}
use Rattle.doc_nodes.specs.declared.node.Node.{Node}
use Rattle.doc_nodes.specs.Names.{in_order}
use Rattle.exec_rules.specs.declared.row.Row.{Row}
use Rattle.exec_rules.specs.Kept.{BlobList, agree}
use Rattle.exec_rules.specs.Rows.{live_print}
use Rattle.exec_rules.specs.Assigning.{Update, entries_in, rows_in}

-- a blob is changed exactly where the two versions don't agree on its text
abbrev pub AreChanged : List (List ℕ × Unit {0}) → BlobList → BlobList → Type 0
AreChanged changed before now = (name : List ℕ)
    → agree (found in_order name now) (found in_order name before)
    ≡ not (is_some (found in_order name changed))

-- none of the executions of a row is cancelled
pub record IsAlive (cancelled : List ℕ) (row : Row) : Type 0 where
  pub evaluation : has cancelled row.evaluation ≡ false
  pub print : live_print cancelled row.print ≡ row.print

-- a node has the commands that it had in the version before, and none of the executions that it
-- had there is cancelled
pub record IsUntouched (u : Update) (pair : List ℕ × Node) : Type 0 where
  pub commands : entries_in u.tip pair.0 ≡ pair.1.entries
  pub alive : (i : ℕ) (row : Row) → slice_get (rows_in u.tip pair.0) i ≡ Some row
      → IsAlive u.cancelled row

-- the nodes that are marked, in the order of names, are untouched
abbrev pub AreUntouched : Update → List Bool → Type 0
AreUntouched u marks = (p : ℕ) (pair : List ℕ × Node) → marked marks p ≡ true
    → slice_get u.nodes p ≡ Some pair → IsUntouched u pair
