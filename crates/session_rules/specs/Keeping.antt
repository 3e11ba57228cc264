-- What an update keeps of the executions of the version before it (Wenzel, ITP 2014; the rules of
-- what is kept are this project's own).
use Rattle.std.specs.Prelude.{◌≡◌, ℕ, ◌<◌, ◌≤◌, true, List, slice_get, length, option_map, is_some, ⊤, Option, Some, None}
use Rattle.text_words.specs.Members.{has}
use Rattle.doc_nodes.specs.declared.node.Node.{Node}
use Rattle.doc_nodes.specs.Wanted.{wanted_at}
use Rattle.exec_rules.specs.declared.row.Row.{Row}
use Rattle.exec_rules.specs.declared.version.Version.{Version}
use Rattle.exec_rules.specs.Assigning.{kept_of, rows_in}
use Rattle.exec_rules.specs.Listed.{executions}
use Rattle.exec_rules.specs.Rows.{live_print}
use Rattle.core_rules.specs.Doc.{Doc, update_of}
use Rattle.core_rules.specs.FromScratch.{assigned_to, key_from}

-- the execution is none of those that were made before
abbrev pub IsNew : Doc → ℕ → Type 0
IsNew d e = length d.homes < e

-- a print, by the one that can be kept: it is that one, or where there is none a new one
abbrev pub KeepsPrint : Doc → Option ℕ → Option ℕ → Type 0
KeepsPrint d old None = ⊤
KeepsPrint d None (Some print) = IsNew d print
KeepsPrint d (Some old) (Some print) = print ≡ old

-- the command at a place of a node has the evaluation that stood there before; if it has a print,
-- that is the one that stood there, unless that is cancelled
pub record KeepsRow (d : Doc) (name : List ℕ) (rows : List Row) (i : ℕ) : Type 0 where
  pub before : Row
  pub row : Row
  pub had : slice_get (rows_in d.tip name) i ≡ Some before
  pub stands : slice_get rows i ≡ Some row
  pub evaluation : row.evaluation ≡ before.evaluation
  pub print : KeepsPrint d (live_print d.cancelled before.print) row.print

-- the command at a place has new executions alone
abbrev pub HasNewRow : Doc → List Row → ℕ → Type 0
HasNewRow d rows i = (row : Row) (e : ℕ) → slice_get rows i ≡ Some row
    → has (executions row) e ≡ true → IsNew d e

-- how many commands of the node at a place of a new version keep their evaluations: the greatest
-- number of them that can, from the first on; none where the node's key is another than before
abbrev pub front : Doc → Version → ℕ → List ℕ × Node → ℕ
front d new p pair = kept_of (update_of d new.nodes new.blobs) pair (assigned_to new p).key

-- the node at a place of a new version: its key is what the last commands of its imports have in
-- this version; the commands of the front keep their executions, and no other keeps one; behind the
-- front only wanted commands are assigned; and assigned commands have prints where they are visible
pub record KeepsFront (d : Doc) (new : Version) (p : ℕ) (pair : List ℕ × Node) : Type 0 where
  pub key : (assigned_to new p).key ≡ key_from new.nodes (assigned_to new) pair.1
  pub inside : (i : ℕ) → i < front d new p pair → KeepsRow d pair.0 (assigned_to new p).rows i
  pub behind : (i : ℕ) → front d new p pair ≤ i → HasNewRow d (assigned_to new p).rows i
  pub wanted : (i : ℕ) → front d new p pair ≤ i → wanted_at new.nodes p ≤ i
      → slice_get (assigned_to new p).rows i ≡ None
  pub prints : (i : ℕ) (row : Row) → slice_get (assigned_to new p).rows i ≡ Some row
      → option_map (λ e. e.visible) (slice_get pair.1.entries i) ≡ Some (is_some row.print)
