-- What a version comes to when it is checked from nothing: the nodes in the order of imports, each
-- from its first command to its last (this project's own). No id or execution is looked at.
use Rattle.std.specs.Prelude.{ℕ, ◌==◌, List, [], ◌∷◌, find, filter_map, slice_get, Option, Some, None}
use Rattle.std.specs.Option.{option_map, option_map_or, option_and_then}
use Rattle.doc_nodes.specs.declared.node.Entry.{Entry}
use Rattle.doc_nodes.specs.declared.node.Node.{Node}
use Rattle.doc_nodes.specs.Imports.{NodeList, place_of, is_bad, order}
use Rattle.doc_nodes.specs.Aliases.{aliases_at}
use Rattle.exec_rules.specs.Kept.{BlobList, blob_of}
use Rattle.language.specs.declared.made.Imported.{Imported}
use Rattle.language.specs.declared.made.Imports.{Imports}
use Rattle.language.specs.declared.made.Imports.TheVariants.{Ordered, Bad}
use Rattle.language.specs.Lang.{Lang}
use Rattle.core_rules.specs.Settings.{Setting, state_behind}
use Rattle.core_rules.specs.Updates.{source_in}

-- a command in a state
abbrev pub set_in : {S : Type 0} → Node → BlobList → Entry → S → Setting S
set_in node blobs e state =
    record { source = source_in node e; blob = blob_of blobs e.needs; state = state }

-- each command in the state behind the one before it, the first in this state
abbrev pub run_from : {S : Type 0} → Lang S → Node → BlobList → List Entry → S → List (Setting S)
run_from l node blobs [] state = []
run_from l node blobs (e ∷ es) state = set_in node blobs e state
    ∷ run_from l node blobs es (state_behind l (set_in node blobs e state))

-- the state behind the last of these commands, which begin in a state
abbrev pub state_after : {S : Type 0} → Lang S → S → List (Setting S) → S
state_after l state [] = state
state_after l state (s ∷ ss) = state_after l (state_behind l s) ss

-- a node: the state at its beginning, and its commands
pub record Run (S : Type 0) : Type 0 where
  pub begins : S
  pub commands : List (Setting S)

-- the nodes that are done, by their places, the last first
abbrev pub Runs : Type 0 → Type 0
Runs S = List (ℕ × Run S)

-- the state behind a node
abbrev pub final : {S : Type 0} → Lang S → Run S → S
final l run = state_after l run.begins run.commands

-- the state behind the node at a place, where it is done
abbrev pub final_at : {S : Type 0} → Lang S → Runs S → ℕ → Option S
final_at l runs p = option_map (λ one. final l one.1) (find (λ one. one.0 == p) runs)

-- an import with the state behind it
abbrev pub import_run : {S : Type 0} → Lang S → NodeList → Runs S → List ℕ → Option (Imported S)
import_run l nodes runs name = option_map (λ state. record { name = name; state = state })
    (option_and_then (final_at l runs) (place_of nodes name))

-- what a node has from its imports, by its first bad import, if there is one
abbrev pub imports_run : {S : Type 0} → Lang S → NodeList → Runs S → List (List ℕ)
    → Option (List ℕ) → Imports S
imports_run l nodes runs imports None = Ordered (filter_map (import_run l nodes runs) imports)
imports_run l nodes runs imports (Some name) = Bad name

-- how the node at a place begins
abbrev pub begins_at : {S : Type 0} → Lang S → NodeList → Runs S → ℕ → List ℕ × Node → S
begins_at l nodes runs p pair = l.start pair.0
    (imports_run l nodes runs pair.1.imports (find (is_bad nodes) pair.1.imports))
    (aliases_at nodes p)

-- a node that begins in a state
abbrev pub run_node : {S : Type 0} → Lang S → Node → BlobList → S → Run S
run_node l node blobs state =
    record { begins = state; commands = run_from l node blobs node.entries state }

-- one node more, by its place
abbrev pub run_one : {S : Type 0} → Lang S → NodeList → BlobList → Runs S → ℕ → Runs S
run_one l nodes blobs runs p = option_map_or
    (λ pair. (p, run_node l pair.1 blobs (begins_at l nodes runs p pair)) ∷ runs)
    (slice_get nodes p) runs

-- the nodes at these places, one after the other
abbrev pub run_all : {S : Type 0} → Lang S → NodeList → BlobList → List ℕ → Runs S → Runs S
run_all l nodes blobs [] runs = runs
run_all l nodes blobs (p ∷ ps) runs = run_all l nodes blobs ps (run_one l nodes blobs runs p)

-- all nodes of a version
abbrev pub scratch : {S : Type 0} → Lang S → NodeList → BlobList → Runs S
scratch l nodes blobs = run_all l nodes blobs (order nodes) []

-- the commands of the node at a place
abbrev pub scratch_at : {S : Type 0} → Lang S → NodeList → BlobList → ℕ → List (Setting S)
scratch_at l nodes blobs p = option_map_or (λ one. one.1.commands)
    (find (λ one. one.0 == p) (scratch l nodes blobs)) []
