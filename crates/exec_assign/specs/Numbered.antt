-- The new executions of an update, each with what it goes by (this project's own). A number is new
-- where it is not below the first that the update gives.
use Rattle.std.specs.Prelude.{◌≡◌, ℕ, ◌<◌, nat_lt, if◌then◌else◌, List, [], ◌∷◌, ◌++◌, length, slice_get, slice_index_or, flat_map, zip, Option, Some, None}
use Rattle.std.specs.Option.{option_map, option_map_or, option_and_then}
use Rattle.std.specs.List.{range_with_len}
use Rattle.doc_nodes.specs.declared.node.Entry.{Entry}
use Rattle.doc_nodes.specs.declared.node.Node.{Node}
use Rattle.doc_nodes.specs.Imports.{order}
use Rattle.exec_rules.specs.declared.row.Row.{Row}
use Rattle.exec_rules.specs.declared.row.Assigned.{Assigned}
use Rattle.exec_rules.specs.declared.home.Home.{Home}
use Rattle.exec_rules.specs.declared.home.Input.{Input}
use Rattle.exec_rules.specs.declared.home.Input.TheVariants.{First, Next, Print}
use Rattle.exec_rules.specs.declared.version.Version.{Version}
use Rattle.exec_rules.specs.Keys.{nothing_assigned}
use Rattle.exec_rules.specs.Kept.{BlobList}
use Rattle.exec_rules.specs.Homes.{home}
use Rattle.exec_rules.specs.Assigning.{Update, rows_in, head_at}

-- an execution with its home, if it is new
abbrev pub if_new : ℕ → ℕ → Home → List (ℕ × Home)
if_new first number home = if nat_lt number first then [] else (number, home) ∷ []

-- the new evaluations among these rows: the first takes up this, each other the one before it
abbrev pub new_evaluations : ℕ → Node → BlobList → List Entry → Input → List Row → List (ℕ × Home)
new_evaluations first node blobs (e ∷ es) input (r ∷ rs) =
    if_new first r.evaluation (home node blobs e input)
    ++ new_evaluations first node blobs es (Next r.evaluation) rs
new_evaluations first node blobs es input rs = []

-- the print of a row, if it is new
abbrev pub new_print : ℕ → Node → BlobList → Entry → ℕ → Option ℕ → List (ℕ × Home)
new_print first node blobs e evaluation None = []
new_print first node blobs e evaluation (Some print) =
    if_new first print (home node blobs e (Print evaluation))

-- the new prints among these rows
abbrev pub new_prints : ℕ → Node → BlobList → List Entry → List Row → List (ℕ × Home)
new_prints first node blobs (e ∷ es) (r ∷ rs) =
    new_print first node blobs e r.evaluation r.print ++ new_prints first node blobs es rs
new_prints first node blobs es rs = []

-- the new executions of a node: its evaluations in the order of places, then its prints
abbrev pub new_of : Update → ℕ → ℕ → List ℕ × Node → Assigned → List (ℕ × Home)
new_of u first p pair assigned =
    new_evaluations first pair.1 u.blobs pair.1.entries (First (head_at u p pair assigned.key))
    assigned.rows ++ new_prints first pair.1 u.blobs pair.1.entries assigned.rows

-- those of the node at a place
abbrev pub new_at : Update → ℕ → (ℕ → Assigned) → ℕ → List (ℕ × Home)
new_at u first assigned p =
    option_map_or (λ pair. new_of u first p pair (assigned p)) (slice_get u.nodes p) []

-- the new executions of all nodes, in the order of imports
abbrev pub new_in : Update → ℕ → List Assigned → List (ℕ × Home)
new_in u first assigned =
    flat_map (new_at u first (λ p. slice_index_or assigned p nothing_assigned)) (order u.nodes)

-- homes with their numbers, the next ones from this on
abbrev pub with_numbers : ℕ → List Home → List (ℕ × Home)
with_numbers first homes = zip (range_with_len first (length homes)) homes

-- the executions of a row are below a number
pub record IsBelow (first : ℕ) (row : Row) : Type 0 where
  pub evaluation : row.evaluation < first
  pub print : (q : ℕ) → row.print ≡ Some q → q < first

-- all executions of a version are below a number
abbrev pub AreBelow : ℕ → Version → Type 0
AreBelow first version = (name : List ℕ) (i : ℕ) (row : Row)
    → slice_get (rows_in version name) i ≡ Some row → IsBelow first row

-- the executions of a row that are below a number are those of the row before
pub record IsHeld (first : ℕ) (before : Option Row) (row : Row) : Type 0 where
  pub evaluation : row.evaluation < first
      → option_map (λ r. r.evaluation) before ≡ Some row.evaluation
  pub print : (q : ℕ) → row.print ≡ Some q → q < first
      → option_and_then (λ r. r.print) before ≡ Some q

-- the executions of a version that are below a number stand where the version before has them
abbrev pub AreHeld : ℕ → Version → Version → Type 0
AreHeld first before version = (name : List ℕ) (i : ℕ) (row : Row)
    → slice_get (rows_in version name) i ≡ Some row
    → IsHeld first (slice_get (rows_in before name) i) row
