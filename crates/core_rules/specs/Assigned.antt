-- What a version assigns.
use Rattle.std.specs.Prelude.{ℕ, ◌==◌, Bool, ◌&&◌, List, map, zip, flat_map}
use Rattle.std.specs.List.{list_any}
use Rattle.text_words.specs.Members.{has}
use Rattle.doc_nodes.specs.declared.node.Entry.{Entry}
use Rattle.doc_nodes.specs.Imports.{NodeList}
use Rattle.core_tables.specs.declared.versions.Live.{Live}
use Rattle.exec_rules.specs.declared.row.Row.{Row}
use Rattle.exec_rules.specs.declared.version.Version.{Version}
use Rattle.exec_rules.specs.Listed.{executions}

-- the rows of all nodes
abbrev pub rows_of : Version → List Row
rows_of version = flat_map (λ assigned. assigned.rows) version.assigned

-- all executions that are assigned
abbrev pub executions_of : Version → List ℕ
executions_of version = flat_map executions (rows_of version)

-- the version assigns the execution
abbrev pub assigns : Version → ℕ → Bool
assigns version e = has (executions_of version) e

-- all commands that are assigned, with their rows
abbrev pub assigned_commands : Version → List (Entry × Row)
assigned_commands version = flat_map (λ pair. zip pair.0.1.entries pair.1.rows)
    (zip version.nodes version.assigned)

-- the evaluation is that of a command that is visible
abbrev pub is_visible : Version → ℕ → Bool
is_visible version e = list_any (λ pair. (pair.1.evaluation == e) && pair.0.visible)
    (assigned_commands version)

-- the commands of all nodes
abbrev pub command_ids : NodeList → List ℕ
command_ids nodes = flat_map (λ pair. map (λ e. e.command) pair.1.entries) nodes

-- a live version assigns the execution; one that was made, and that none assigns, is gone
abbrev pub is_assigned : List (Live Version) → ℕ → Bool
is_assigned live e = list_any (λ one. assigns one.version e) live
