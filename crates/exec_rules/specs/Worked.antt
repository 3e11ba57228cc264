-- What updates of small documents tell (this project's own): the nodes whose rows changed, each
-- command with the list of its executions.
use Rattle.std.specs.Prelude.{◌≡◌, ℕ, List, [], ◌∷◌, codes}
use Rattle.doc_nodes.specs.Imports.{NodeList}
use Rattle.exec_rules.specs.declared.version.Version.{Version}
use Rattle.exec_rules.specs.Examples.{hidden, seen, loads, required, watched, start, version_after, tells}

-- a node of five commands
abbrev pub five : NodeList
five = (codes "A", required [] (hidden 1 ∷ hidden 2 ∷ hidden 3 ∷ hidden 4 ∷ hidden 5 ∷ [])) ∷ []

-- the third of them is another
abbrev pub third_changed : NodeList
third_changed =
    (codes "A", required [] (hidden 1 ∷ hidden 2 ∷ hidden 6 ∷ hidden 4 ∷ hidden 5 ∷ [])) ∷ []

-- the changed command and all behind it have new executions
abbrev pub AChangedCommand : Type 0
AChangedCommand = tells (version_after start five [] [] 1) third_changed [] [] 6
    ≡ (codes "A", (1, 1 ∷ []) ∷ (2, 2 ∷ []) ∷ (6, 6 ∷ []) ∷ (4, 7 ∷ []) ∷ (5, 8 ∷ []) ∷ []) ∷ []

-- a node of five commands, of which the first two are seen
abbrev pub two_seen : NodeList
two_seen = (codes "A", watched (seen 1 ∷ seen 2 ∷ hidden 3 ∷ hidden 4 ∷ hidden 5 ∷ [])) ∷ []

-- all five are seen
abbrev pub all_seen : NodeList
all_seen = (codes "A", watched (seen 1 ∷ seen 2 ∷ seen 3 ∷ seen 4 ∷ seen 5 ∷ [])) ∷ []

-- the first alone is seen
abbrev pub one_seen : NodeList
one_seen = (codes "A", watched (seen 1 ∷ hidden 2 ∷ hidden 3 ∷ hidden 4 ∷ hidden 5 ∷ [])) ∷ []

-- the version where two are seen
abbrev pub after_two : Version
after_two = version_after start two_seen [] [] 1

-- the version behind it, where all are
abbrev pub after_all : Version
after_all = version_after after_two all_seen [] [] 5

-- what is seen is assigned and printed; what was assigned stays so, though not printed
pub record APerspective : Type 0 where
  pub two : tells start two_seen [] [] 1
      ≡ (codes "A", (1, 1 ∷ 3 ∷ []) ∷ (2, 2 ∷ 4 ∷ []) ∷ (3, []) ∷ (4, []) ∷ (5, []) ∷ []) ∷ []
  pub all : tells after_two all_seen [] [] 5
      ≡ (
        codes "A",
        (1, 1 ∷ 3 ∷ []) ∷ (2, 2 ∷ 4 ∷ []) ∷ (3, 5 ∷ 8 ∷ []) ∷ (4, 6 ∷ 9 ∷ [])
            ∷ (5, 7 ∷ 10 ∷ []) ∷ [],
      ) ∷ []
  pub one : tells after_all one_seen [] [] 11
      ≡ (
        codes "A",
        (1, 1 ∷ 3 ∷ []) ∷ (2, 2 ∷ []) ∷ (3, 5 ∷ []) ∷ (4, 6 ∷ []) ∷ (5, 7 ∷ []) ∷ [],
      ) ∷ []

-- a node of four commands that imports another
abbrev pub importer : List ℕ → NodeList
importer = λ name.
    (name, required (codes "A" ∷ []) (hidden 4 ∷ hidden 5 ∷ hidden 6 ∷ hidden 7 ∷ [])) ∷ []

-- the other, of three commands, and the one that imports it
abbrev pub importing : NodeList
importing = (codes "A", required [] (hidden 1 ∷ hidden 2 ∷ hidden 3 ∷ [])) ∷ importer (codes "B")

-- the last command of the import is another
abbrev pub import_changed : NodeList
import_changed =
    (codes "A", required [] (hidden 1 ∷ hidden 2 ∷ hidden 8 ∷ [])) ∷ importer (codes "B")

-- the last command of the importer is another besides
abbrev pub importer_changed : NodeList
importer_changed = (codes "A", required [] (hidden 1 ∷ hidden 2 ∷ hidden 8 ∷ []))
    ∷ (codes "B", required (codes "A" ∷ []) (hidden 4 ∷ hidden 5 ∷ hidden 6 ∷ hidden 9 ∷ [])) ∷ []

-- the version where the import has changed
abbrev pub after_import : Version
after_import = version_after (version_after start importing [] [] 1) import_changed [] [] 8

-- an importer has new executions where what it imports has, and not the other way round
pub record AChangedImport : Type 0 where
  pub first : tells start importing [] [] 1
      ≡ (codes "A", (1, 1 ∷ []) ∷ (2, 2 ∷ []) ∷ (3, 3 ∷ []) ∷ [])
      ∷ (codes "B", (4, 4 ∷ []) ∷ (5, 5 ∷ []) ∷ (6, 6 ∷ []) ∷ (7, 7 ∷ []) ∷ []) ∷ []
  pub import : tells (version_after start importing [] [] 1) import_changed [] [] 8
      ≡ (codes "A", (1, 1 ∷ []) ∷ (2, 2 ∷ []) ∷ (8, 8 ∷ []) ∷ [])
      ∷ (codes "B", (4, 9 ∷ []) ∷ (5, 10 ∷ []) ∷ (6, 11 ∷ []) ∷ (7, 12 ∷ []) ∷ []) ∷ []
  pub importer : tells after_import importer_changed [] [] 13
      ≡ (codes "B", (4, 9 ∷ []) ∷ (5, 10 ∷ []) ∷ (6, 11 ∷ []) ∷ (9, 13 ∷ []) ∷ []) ∷ []

-- two nodes that import each other, and one that imports none that is there
abbrev pub cycle : NodeList
cycle = (codes "A", required (codes "B" ∷ []) (hidden 1 ∷ hidden 2 ∷ []))
    ∷ (codes "B", required (codes "A" ∷ []) (hidden 3 ∷ hidden 4 ∷ []))
    ∷ (codes "C", required (codes "D" ∷ []) (hidden 5 ∷ hidden 6 ∷ [])) ∷ []

-- they are assigned by name, and keep their executions
pub record BadImports : Type 0 where
  pub first : tells start cycle [] [] 1
      ≡ (codes "A", (1, 1 ∷ []) ∷ (2, 2 ∷ []) ∷ []) ∷ (codes "B", (3, 3 ∷ []) ∷ (4, 4 ∷ []) ∷ [])
      ∷ (codes "C", (5, 5 ∷ []) ∷ (6, 6 ∷ []) ∷ []) ∷ []
  pub again : tells (version_after start cycle [] [] 1) cycle [] [] 7 ≡ []

-- a cancelled execution is not kept, nor what stands behind it; a cancelled print is replaced alone
pub record ACancellation : Type 0 where
  pub evaluation : tells (version_after start five [] [] 1) five [] (3 ∷ []) 6
      ≡ (codes "A", (1, 1 ∷ []) ∷ (2, 2 ∷ []) ∷ (3, 6 ∷ []) ∷ (4, 7 ∷ []) ∷ (5, 8 ∷ []) ∷ []) ∷ []
  pub print : tells after_two two_seen [] (3 ∷ []) 5
      ≡ (codes "A", (1, 1 ∷ 5 ∷ []) ∷ (2, 2 ∷ 4 ∷ []) ∷ (3, []) ∷ (4, []) ∷ (5, []) ∷ []) ∷ []

-- a node whose second command asks for a blob
abbrev pub loading : NodeList
loading = (codes "A", required [] (hidden 1 ∷ loads 2 ∷ hidden 3 ∷ [])) ∷ []

-- the version of the node that loads
abbrev pub after_loading : Version
after_loading = version_after start loading ((codes "x", codes "a: P") ∷ []) [] 1

-- a blob that changes or goes changes what asks for it, and what stands behind; another does not
pub record ABlob : Type 0 where
  pub changed : tells after_loading loading ((codes "x", codes "a: Q") ∷ []) [] 4
      ≡ (codes "A", (1, 1 ∷ []) ∷ (2, 4 ∷ []) ∷ (3, 5 ∷ []) ∷ []) ∷ []
  pub other : tells after_loading loading ((codes "x", codes "a: P") ∷ (codes "y", []) ∷ []) [] 4
      ≡ []
  pub gone : tells after_loading loading [] [] 4
      ≡ (codes "A", (1, 1 ∷ []) ∷ (2, 4 ∷ []) ∷ (3, 5 ∷ []) ∷ []) ∷ []

-- a node of one command that imports another
abbrev pub one_command : List ℕ → NodeList
one_command = λ name. (name, required (codes "A" ∷ []) (hidden 1 ∷ [])) ∷ []

-- the other has no commands
abbrev pub empty_import : NodeList
empty_import = (codes "A", watched []) ∷ one_command (codes "B")

-- then it has one
abbrev pub filled_import : NodeList
filled_import = (codes "A", watched (hidden 2 ∷ [])) ∷ one_command (codes "B")

-- an importer's executions are not kept when the import gets commands
abbrev pub AnEmptyImport : Type 0
AnEmptyImport = tells (version_after start empty_import [] [] 1) filled_import [] [] 2
    ≡ (codes "A", (2, 2 ∷ []) ∷ []) ∷ (codes "B", (1, 3 ∷ []) ∷ []) ∷ []
