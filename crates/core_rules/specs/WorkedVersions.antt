-- What events come to in small documents of several versions (this project's own).
use Rattle.std.specs.Prelude.{◌≡◌, ℕ, ◌+◌, true, false, List, [], ◌∷◌, map, codes, Option, Some, None}
use Rattle.doc_nodes.specs.outer_syntax_below.declared.parts.KeywordPair.{KeywordPair}
use Rattle.doc_nodes.specs.declared.node.Entry.{Entry}
use Rattle.doc_nodes.specs.Imports.{NodeList}
use Rattle.exec_rules.specs.Listed.{told_commands_in}
use Rattle.core_rules.specs.declared.event.Event.{Event}
use Rattle.core_rules.specs.declared.event.Event.TheVariants as event
use Rattle.core_rules.specs.Standing.{held, is_finished}
use Rattle.core_rules.specs.Doc.{doc}
use Rattle.core_rules.specs.Shown.{pending, parts_shown, scratch_shown}
use Rattle.core_rules.specs.Small.{small, node, only, eval, take}
use Rattle.core_rules.specs.Worked.{four}
use Rattle.core_rules.specs.WorkedNodes.{states_at}

-- an inserted command: what stands before it keeps its executions
abbrev pub inserted : List Event
inserted = event.Update 2 (only (node (codes "taabe") (1 ∷ 2 ∷ 3 ∷ 5 ∷ 4 ∷ []) [])) []
    ∷ event.Update 1 (only (node (codes "taae") (1 ∷ 2 ∷ 3 ∷ 4 ∷ []) [])) [] ∷ []

-- it and what stands behind it have new ones
abbrev pub AnInsertedCommand : Type 0
AnInsertedCommand = told_commands_in (doc small inserted).tip (codes "A")
    ≡ (1, 1 ∷ []) ∷ (2, 2 ∷ []) ∷ (3, 3 ∷ []) ∷ (5, 5 ∷ []) ∷ (4, 6 ∷ []) ∷ []

-- a part is taken, the text grows by a blank, and the version of the claim is removed
abbrev pub removed : List Event
removed = event.Finished 1 (eval 1) ∷ event.Remove (1 ∷ [])
    ∷ event.Update 2 (only (node (codes "tlbe ") (1 ∷ 2 ∷ 3 ∷ 4 ∷ []) [])) []
    ∷ take 1 (event.Update 1 four [] ∷ [])

-- what both versions have stays, and is finished for the one that is left
pub record ARemovedVersion : Type 0 where
  pub held : held (take 1 (event.Update 1 four [] ∷ [])) 1 ≡ Some (eval 1)
  pub live : map (λ live. live.id) (doc small removed).live ≡ 2 ∷ []
  pub finished : is_finished removed (eval 1) ≡ true
  pub pending : pending small removed (doc small removed) (doc small removed).tip (codes "A")
      ≡ 2 ∷ 3 ∷ 4 ∷ []
  pub shown : parts_shown small removed (doc small removed) (doc small removed).tip (codes "A")
      ≡ scratch_shown small removed (doc small removed).tip (codes "A")

-- a node whose header gives a command a name, and one that imports it
abbrev pub naming : List ℕ → List KeywordPair → List ℕ → List ℕ → NodeList
naming text keywords commands importers =
    (codes "A", record (node text commands []) { keywords = keywords })
    ∷ (codes "B", node (codes "te") importers (codes "A" ∷ [])) ∷ []

-- with a name for a command
abbrev pub named : NodeList
named = naming (codes "te") (record { name = codes "claim"; target = codes "lemma" } ∷ [])
    (1 ∷ 2 ∷ []) (3 ∷ 4 ∷ [])

-- without
abbrev pub renamed : NodeList
renamed = naming (codes "ue") [] (5 ∷ 2 ∷ []) (3 ∷ 4 ∷ [])

-- the one version after the other
abbrev pub renamed_run : List Event
renamed_run = event.Update 2 renamed [] ∷ event.Update 1 named [] ∷ []

-- aliases come from imports; another header has both nodes run anew
pub record AnAlias : Type 0 where
  pub told : told_commands_in (doc small renamed_run).tip (codes "A") ≡ (5, 5 ∷ []) ∷ (2, 6 ∷ [])
      ∷ []
  pub importer : told_commands_in (doc small renamed_run).tip (codes "B") ≡ (3, 7 ∷ []) ∷
      (4, 8 ∷ []) ∷ []
  pub begins : states_at named [] 1
      ≡ (codes "claim" ∷ codes "t" ∷ codes "e" ∷ codes "claim" ∷ [])
      ∷ (codes "claim" ∷ codes "t" ∷ codes "e" ∷ codes "claim" ∷ codes "t" ∷ []) ∷ []

-- the second of three commands asks for the blob `x`
abbrev pub asking : ℕ → ℕ → Option (List ℕ) → Entry
asking c at needs = record {
  command = c;
  range = record { start = at; stop = at + 1 };
  visible = false;
  needs = needs;
}

-- its node
abbrev pub loading : NodeList
loading = only (record (node (codes "tle") [] []) {
  entries = asking 1 0 None ∷ asking 2 1 (Some (codes "x")) ∷ asking 3 2 None ∷ [];
})

-- with a text for the blob
abbrev pub loaded : List Event
loaded = event.Update 1 loading ((codes "x", codes "p") ∷ []) ∷ []

-- with another text
abbrev pub reloaded : List Event
reloaded = event.Update 2 loading ((codes "x", codes "q") ∷ []) ∷ loaded

-- with another blob beside it
abbrev pub other : List Event
other = event.Update 3 loading ((codes "x", codes "q") ∷ (codes "y", []) ∷ []) ∷ reloaded

-- a blob that changes or goes has what asks for it run anew, and what stands behind
pub record ABlob : Type 0 where
  pub changed : told_commands_in (doc small reloaded).tip (codes "A")
      ≡ (1, 1 ∷ []) ∷ (2, 4 ∷ []) ∷ (3, 5 ∷ []) ∷ []
  pub kept : told_commands_in (doc small other).tip (codes "A")
      ≡ (1, 1 ∷ []) ∷ (2, 4 ∷ []) ∷ (3, 5 ∷ []) ∷ []
  pub gone : told_commands_in (doc small (event.Update 4 loading [] ∷ other)).tip (codes "A")
      ≡ (1, 1 ∷ []) ∷ (2, 6 ∷ []) ∷ (3, 7 ∷ []) ∷ []
  pub states : states_at loading ((codes "x", codes "q") ∷ []) 0
      ≡ [] ∷ (codes "t" ∷ []) ∷ (codes "t" ∷ codes "l" ∷ codes "q" ∷ []) ∷ []
