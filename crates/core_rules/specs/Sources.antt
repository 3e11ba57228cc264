-- What the executions that a version assigns take up (this project's own).
use Rattle.std.specs.Prelude.{◌≡◌, ℕ, ◌<◌, Bool, true, false, List, ◌∷◌, ⊤, Some}
use Rattle.std.specs.List.{AllByRecursion}
use Rattle.doc_nodes.specs.Imports.{NodeList, place_of}
use Rattle.exec_rules.specs.declared.key.Last.{Last}
use Rattle.exec_rules.specs.declared.key.Last.TheVariants.{Empty, Open, Made}
use Rattle.exec_rules.specs.declared.key.Key.{Key}
use Rattle.exec_rules.specs.declared.key.Key.TheVariants.{Lasts, BadImport}
use Rattle.exec_rules.specs.declared.home.Home.{Home}
use Rattle.exec_rules.specs.declared.home.Input.{Input}
use Rattle.exec_rules.specs.declared.home.Input.TheVariants as input
use Rattle.exec_rules.specs.declared.version.Version.{Version}
use Rattle.language.specs.Lang.{Lang}
use Rattle.core_rules.specs.Numbered.{numbered}
use Rattle.core_rules.specs.Assigned.{assigns}
use Rattle.core_rules.specs.Settings.{Setting, setting}
use Rattle.core_rules.specs.Parts.{sources_of}
use Rattle.core_rules.specs.Doc.{Doc}

-- what takes this up is an evaluation, and no print
abbrev pub is_evaluation : Input → Bool
is_evaluation (input.Print e) = false
is_evaluation taken = true

-- an import hands a state on: where it has no command it is a node, else its last command has an
-- evaluation
abbrev pub HandsOn : NodeList → List ℕ → Last → Type 0
HandsOn nodes name Empty = (q : ℕ) × (place_of nodes name ≡ Some q)
HandsOn nodes name Open = ⊥
HandsOn nodes name (Made e) = ⊤

-- so does each of these imports
abbrev pub AllHandOn : NodeList → List (List ℕ) → List Last → Type 0
AllHandOn nodes (name ∷ names) (last ∷ lasts) =
    HandsOn nodes name last × AllHandOn nodes names lasts
AllHandOn nodes names lasts = ⊤

-- so does each that a key tells of
abbrev pub HandOnBy : NodeList → List (List ℕ) → Key → Type 0
HandOnBy nodes names (Lasts lasts) = AllHandOn nodes names lasts
HandOnBy nodes names (BadImport name) = ⊤

-- so does each import of a node that begins with this
abbrev pub BeginsFrom : NodeList → Input → Type 0
BeginsFrom nodes (input.First head) = HandOnBy nodes head.imports head.key
BeginsFrom nodes taken = ⊤

-- an execution takes up an older evaluation, which the version assigns as well
pub record IsSource (d : Doc) (v : Version) (e f : ℕ) : Type 0 where
  pub older : f < e
  pub assigned : assigns v f ≡ true
  pub home : Home
  pub homed : numbered d.homes f ≡ Some home
  pub evaluates : is_evaluation home.input ≡ true

-- what an execution goes by that a version assigns, what it works on, and what it takes up
pub record HasHome {S : Type 0} (l : Lang S) (d : Doc) (v : Version) (e : ℕ) : Type 0 where
  pub home : Home
  pub homed : numbered d.homes e ≡ Some home
  pub works_on : Setting S
  pub setting_is : setting l d.homes e ≡ Some works_on
  pub sources : AllByRecursion (IsSource d v e) (sources_of home.input)
  pub begins : BeginsFrom v.nodes home.input
