-- What an update leaves and adds of the commands that have executions (this project's own).
use Rattle.std.specs.Prelude.{◌≡◌, ℕ, ◌==◌, Bool, true, false, not, ◌&&◌, ◌||◌, if◌then◌else◌, List, [], ◌∷◌, slice_get, Option, Some, None}
use Rattle.std.specs.Option.{option_or, option_and_then}
use Rattle.std.specs.List.{list_any}
use Rattle.text_words.specs.Members.{has}
use Rattle.doc_nodes.specs.declared.node.Entry.{Entry}
use Rattle.doc_nodes.specs.declared.node.Node.{Node}
use Rattle.doc_nodes.specs.Imports.{NodeList, place_of}
use Rattle.buffer_rules.specs.Cuts.{source}
use Rattle.reply_messages.specs.declared.told.CommandRow.{CommandRow}
use Rattle.reply_messages.specs.declared.told.NodeRows.{NodeRows}
use Rattle.mirror_rules.specs.Images.{Image}
use Rattle.mirror_rules.specs.Rows.{executions_of, node_rows, rows_of}
use Rattle.pide_mirror.specs.Kept.{told_rows}
use Rattle.pide_mirror.specs.Places.{unreported}
use Rattle.pide_mirror.specs.declared.place.Place.{Place}
use Rattle.pide_mirror.specs.declared.renewing.NewRows.{NewRows}

-- the row gives the command the execution
abbrev pub gives : CommandRow → ℕ → ℕ → Bool
gives row exec command = (row.command == command) && has row.executions exec

-- one of the rows does, and the command isn't to keep it
abbrev pub is_stale : List CommandRow → (ℕ → List ℕ) → ℕ → ℕ → Bool
is_stale rows kept exec command =
    list_any (λ row. gives row exec command) rows && not (has (kept command) exec)

-- the same of a node of the tip, by what its node of the new version has
abbrev pub stale_of : List CommandRow → Option NewRows → ℕ → ℕ → Bool
stale_of rows None exec command = is_stale rows (λ c. []) exec command
stale_of rows (Some new) exec command =
    if new.stays then false else is_stale rows (executions_of (told_rows new.rows)) exec command

-- what is made of the node of a name
abbrev pub made_for : NodeList → List NewRows → List ℕ → Option NewRows
made_for nodes made name = option_and_then (slice_get made) (place_of nodes name)

-- so of one of the tip's nodes
abbrev pub stale_in : (List ℕ → Option NewRows) → NodeList → List (List CommandRow) → ℕ → ℕ → Bool
stale_in new (n ∷ ns) (rows ∷ more) exec command =
    stale_of rows (new n.0) exec command || stale_in new ns more exec command
stale_in new ns rows exec command = false

-- a command of this source, where its row gives it the execution
abbrev pub fresh_row : List ℕ → CommandRow → ℕ → ℕ → Option Place
fresh_row text row exec command = if gives row exec command then Some (unreported text) else None

-- the same of the commands of a node's text
abbrev pub fresh_in : List ℕ → List Entry → List CommandRow → ℕ → ℕ → Option Place
fresh_in text (e ∷ es) (row ∷ rows) exec command =
    option_or (fresh_row (source text e.range) row exec command) (fresh_in text es rows exec command)
fresh_in text es rows exec command = None

-- the same of a node, unless its rows are those of the tip's node
abbrev pub fresh_of : Node → NewRows → ℕ → ℕ → Option Place
fresh_of node new exec command =
    if new.stays then None else fresh_in node.text node.entries new.rows exec command

-- the same of all nodes
abbrev pub fresh_all : NodeList → List NewRows → ℕ → ℕ → Option Place
fresh_all (n ∷ ns) (new ∷ more) exec command =
    option_or (fresh_of n.1 new exec command) (fresh_all ns more exec command)
fresh_all ns made exec command = None

-- the rows of each node of a new version, and that those which stay are the tip's
pub record IsMade (tip : Image) (listed : List NodeRows) (pair : List ℕ × Node)
    (new : NewRows) : Type 0 where
  pub rows : told_rows new.rows ≡ (node_rows tip listed pair).1
  pub stays : new.stays ≡ true → (q : ℕ) × (slice_get tip.nodes q ≡ Some pair)
  pub same : new.stays ≡ true → rows_of tip pair.0 ≡ told_rows new.rows

-- so for all nodes
abbrev pub AreMade : Image → List NodeRows → NodeList → List NewRows → Type 0
AreMade tip listed nodes made = (p : ℕ) (pair : List ℕ × Node) → slice_get nodes p ≡ Some pair
    → (new : NewRows) × (slice_get made p ≡ Some new) × IsMade tip listed pair new
