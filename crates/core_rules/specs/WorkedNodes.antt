-- What events come to in small documents of several nodes and versions (this project's own).
use Rattle.std.specs.Prelude.{◌≡◌, ℕ, true, false, List, [], ◌∷◌, ◌++◌, map, codes, Some, None}
use Rattle.doc_nodes.specs.Imports.{NodeList}
use Rattle.exec_rules.specs.Listed.{told_commands_in}
use Rattle.core_rules.specs.declared.event.Event.{Event}
use Rattle.core_rules.specs.declared.event.Event.TheVariants as event
use Rattle.core_rules.specs.Doc.{doc}
use Rattle.core_rules.specs.Ready.{first_ready}
use Rattle.core_rules.specs.Scratch.{scratch_at}
use Rattle.core_rules.specs.Stuck.{is_settled, stuck_in}
use Rattle.core_rules.specs.Shown.{pending}
use Rattle.core_rules.specs.Small.{Words, small, row, node, only, eval, print, work}

-- the states that the commands of the node at a place are run in, from nothing
abbrev pub states_at : NodeList → List (List ℕ × List ℕ) → ℕ → List Words
states_at nodes blobs p = map (λ s. s.state) (scratch_at small nodes blobs p)

-- a node and one that imports it; then the last command of the first is another
abbrev pub importer : List ℕ → List ℕ → NodeList
importer text commands = (codes "B", node text commands (codes "A" ∷ [])) ∷ []

-- both nodes
abbrev pub importing : NodeList
importing = (codes "A", node (codes "tae") (1 ∷ 2 ∷ 3 ∷ []) [])
    ∷ importer (codes "bl") (4 ∷ 5 ∷ [])

-- the same with another command at the end of the first
abbrev pub import_changed : NodeList
import_changed = (codes "A", node (codes "tax") (1 ∷ 2 ∷ 6 ∷ []) [])
    ∷ importer (codes "bl") (4 ∷ 5 ∷ [])

-- one part is run in between
abbrev pub imported : List Event
imported = event.Update 2 import_changed [] ∷ work 0 (event.Update 1 importing [] ∷ [])

-- an importer begins with what its import leaves, and is run anew where that is another
pub record AnImport : Type 0 where
  pub told : told_commands_in (doc small imported).tip (codes "B") ≡ (4, 7 ∷ []) ∷ (5, 8 ∷ []) ∷ []
  pub kept : told_commands_in (doc small imported).tip (codes "A")
      ≡ (1, 1 ∷ []) ∷ (2, 2 ∷ []) ∷ (6, 6 ∷ []) ∷ []
  pub next : first_ready small imported ≡ Some (eval 2)
  pub states : states_at import_changed [] 1
      ≡ (codes "t" ∷ codes "a" ∷ codes "x" ∷ [])
      ∷ (codes "t" ∷ codes "a" ∷ codes "x" ∷ codes "b" ∷ []) ∷ []

-- two nodes that import each other, and one that imports none that is there
abbrev pub cycle : NodeList
cycle = (codes "A", node (codes "t") (1 ∷ []) (codes "B" ∷ []))
    ∷ (codes "B", node (codes "t") (2 ∷ []) (codes "A" ∷ []))
    ∷ (codes "C", node (codes "tb") (3 ∷ 4 ∷ []) (codes "D" ∷ [])) ∷ []

-- all parts are run
abbrev pub cycle_run : List Event
cycle_run = work 0 (work 0 (work 0 (work 0 (work 0 (event.Update 1 cycle [] ∷ [])))))

-- they begin with the bad import's name, and all is finished
pub record BadImports : Type 0 where
  pub settled : is_settled small cycle_run (doc small cycle_run) (doc small cycle_run).tip ≡ true
  pub stuck : stuck_in small cycle_run (doc small cycle_run) (doc small cycle_run).tip ≡ []
  pub rest : first_ready small cycle_run ≡ None
  pub states : states_at cycle [] 2 ≡ (codes "D" ∷ []) ∷ (codes "D" ∷ codes "t" ∷ []) ∷ []

-- a node that is not required, of five commands: the first so many are visible
abbrev pub watched : List ℕ → List ℕ → NodeList
watched shown hidden = only (record {
  text = codes "abcde";
  entries = row true 0 shown ++ row false 3 hidden;
  required = false;
  imports = [];
  keywords = [];
})

-- three commands are visible
abbrev pub watched_run : List Event
watched_run = event.Update 1 (watched (1 ∷ 2 ∷ 3 ∷ []) (4 ∷ 5 ∷ [])) [] ∷ []

-- their evaluations are run
abbrev pub evaluated : List Event
evaluated = work 0 (work 0 (work 0 watched_run))

-- visible commands have prints, which come behind all evaluations and before forks
pub record APerspective : Type 0 where
  pub told : told_commands_in (doc small watched_run).tip (codes "A")
      ≡ (1, 1 ∷ 4 ∷ []) ∷ (2, 2 ∷ 5 ∷ []) ∷ (3, 3 ∷ 6 ∷ []) ∷ (4, []) ∷ (5, []) ∷ []
  pub next : first_ready small evaluated ≡ Some (print 4)
  pub pending : pending small evaluated (doc small evaluated) (doc small evaluated).tip (codes "A")
      ≡ 2 ∷ 4 ∷ 5 ∷ 6 ∷ []
