-- What each assigned execution of a live version comes to: the same as from nothing (this project's
-- own).
use Rattle.std.specs.Prelude.{◌≡◌, ℕ, zero, suc, Bool, true, false, List, map, find, slice_get, ⊤, Option, Some, None}
use Rattle.std.specs.Option.{option_map_or}
use Rattle.std.specs.List.{list_any}
use Rattle.doc_nodes.specs.declared.node.Entry.{Entry}
use Rattle.doc_nodes.specs.declared.node.Node.{Node}
use Rattle.doc_nodes.specs.Imports.{NodeList, place_of, is_bad}
use Rattle.doc_nodes.specs.Aliases.{aliases_at}
use Rattle.exec_rules.specs.declared.key.Last.{Last}
use Rattle.exec_rules.specs.declared.key.Last.TheVariants.{Empty, Open}
use Rattle.exec_rules.specs.declared.key.Key.{Key}
use Rattle.exec_rules.specs.declared.key.Key.TheVariants.{Lasts, BadImport}
use Rattle.exec_rules.specs.declared.row.Row.{Row}
use Rattle.exec_rules.specs.declared.row.Assigned.{Assigned}
use Rattle.exec_rules.specs.declared.home.Head.{Head}
use Rattle.exec_rules.specs.declared.home.Input.{Input}
use Rattle.exec_rules.specs.declared.home.Input.TheVariants as input
use Rattle.exec_rules.specs.declared.home.Home.{Home}
use Rattle.exec_rules.specs.declared.version.Version.{Version}
use Rattle.exec_rules.specs.Keys.{nothing_assigned, last_of, key_by}
use Rattle.exec_rules.specs.Homes.{home}
use Rattle.exec_rules.specs.Assigning.{entries_at}
use Rattle.language.specs.Lang.{Lang}
use Rattle.core_rules.specs.Numbered.{numbered}
use Rattle.core_rules.specs.Settings.{Setting, setting, state_behind}
use Rattle.core_rules.specs.Scratch.{scratch_at}
use Rattle.core_rules.specs.Doc.{Doc}

-- what is assigned to the node at a place
abbrev pub assigned_to : Version → ℕ → Assigned
assigned_to v p = option_map_or (λ a. a) (slice_get v.assigned p) nothing_assigned

-- what the last command of the node of a name has, by what is assigned to each place
abbrev pub last_by : NodeList → (ℕ → Assigned) → List ℕ → Last
last_by nodes assigned name = option_map_or
    (λ p. last_of (entries_at nodes p) (assigned p).rows) (place_of nodes name) Empty

-- what a node rests on outside of it
abbrev pub key_from : NodeList → (ℕ → Assigned) → Node → Key
key_from nodes assigned node =
    key_by (find (is_bad nodes) node.imports) (map (last_by nodes assigned) node.imports)

-- a key names a command that has no evaluation
abbrev pub is_open_last : Last → Bool
is_open_last Open = true
is_open_last last = false

-- one of the commands that a key names has none
abbrev pub has_open : Key → Bool
has_open (Lasts lasts) = list_any is_open_last lasts
has_open (BadImport name) = false

-- how the node at a place begins, with this key
abbrev pub head_in : NodeList → ℕ → List ℕ × Node → Key → Head
head_in nodes p pair key = record {
  node = pair.0;
  imports = pair.1.imports;
  aliases = aliases_at nodes p;
  key = key;
}

-- what the evaluation at a place takes up: the one before it, or how the node begins
abbrev pub input_at : Head → List Row → ℕ → Input
input_at head rows zero = input.First head
input_at head rows (suc i) =
    option_map_or (λ row. input.Next row.evaluation) (slice_get rows i) (input.First head)

-- a print's home and setting, where the command has one
abbrev pub PrintIs : {S : Type 0} → Lang S → Doc → Option ℕ → (Input → Home) → ℕ → Setting S
    → Type 0
PrintIs l d None homed e s = ⊤
PrintIs l d (Some q) homed e s = (numbered d.homes q ≡ Some (homed (input.Print e)))
    × (setting l d.homes q ≡ Some (record s { state = state_behind l s }))

-- the executions of the command at a place of a node: what they go by is what the version has
-- there, and they work on what the command is run in from nothing
pub record IsFromScratch {S : Type 0} (l : Lang S) (d : Doc) (v : Version) (p : ℕ)
    (pair : List ℕ × Node) (i : ℕ) (row : Row) : Type 0 where
  pub command : Entry
  pub stands : slice_get pair.1.entries i ≡ Some command
  pub key : (assigned_to v p).key ≡ key_from v.nodes (assigned_to v) pair.1
  pub closed : has_open (assigned_to v p).key ≡ false
  pub homed : numbered d.homes row.evaluation ≡ Some (home pair.1 v.blobs command
      (input_at (head_in v.nodes p pair (assigned_to v p).key) (assigned_to v p).rows i))
  pub works_on : Setting S
  pub kept : setting l d.homes row.evaluation ≡ Some works_on
  pub scratch : slice_get (scratch_at l v.nodes v.blobs p) i ≡ Some works_on
  pub prints : PrintIs l d row.print (home pair.1 v.blobs command) row.evaluation works_on

-- so are all executions that a version assigns
abbrev pub AllFromScratch : {S : Type 0} → Lang S → Doc → Version → Type 0
AllFromScratch l d v = (p i : ℕ) (pair : List ℕ × Node) (row : Row)
    → slice_get v.nodes p ≡ Some pair → slice_get (assigned_to v p).rows i ≡ Some row
    → IsFromScratch l d v p pair i row
