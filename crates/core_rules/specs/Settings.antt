-- What executions work on, and what comes of it: each by what it goes by, so that only older ones
-- are looked at (this project's own).
use Rattle.std.specs.Prelude.{ℕ, List, [], ◌∷◌, zip, filter_map, Option, Some, None}
use Rattle.std.specs.Option.{option_map, option_and_then}
use Rattle.language.specs.report_markup_below.declared.report.Report.{Report}
use Rattle.doc_nodes.specs.Aliases.{no_aliases}
use Rattle.exec_rules.specs.declared.key.Last.{Last}
use Rattle.exec_rules.specs.declared.key.Last.TheVariants.{Empty, Open, Made as MadeBy}
use Rattle.exec_rules.specs.declared.key.Key.{Key}
use Rattle.exec_rules.specs.declared.key.Key.TheVariants.{Lasts, BadImport}
use Rattle.exec_rules.specs.declared.home.Head.{Head}
use Rattle.exec_rules.specs.declared.home.Input.{Input}
use Rattle.exec_rules.specs.declared.home.Input.TheVariants.{First, Next, Print}
use Rattle.exec_rules.specs.declared.home.Home.{Home}
use Rattle.language.specs.declared.made.Imported.{Imported}
use Rattle.language.specs.declared.made.Imports.{Imports}
use Rattle.language.specs.declared.made.Imports.TheVariants.{Ordered, Bad}
use Rattle.language.specs.declared.made.Made.{Made}
use Rattle.language.specs.Lang.{Lang}
use Rattle.core_rules.specs.Numbered.{numbered}

-- a command with its blob, and the state that an execution of it takes up
pub record Setting (S : Type 0) : Type 0 where
  pub source : List ℕ
  pub blob : Option (List ℕ)
  pub state : S

-- what an evaluation makes of it
abbrev pub made_of : {S : Type 0} → Lang S → Setting S → Made S
made_of l s = l.step s.source s.blob s.state

-- what its fork reports
abbrev pub forked : {S : Type 0} → Lang S → Setting S → List Report
forked l s = l.fork s.source s.state

-- what a print of it reports
abbrev pub printed : {S : Type 0} → Lang S → Setting S → List Report
printed l s = l.print s.source s.state

-- the state behind an evaluation
abbrev pub state_behind : {S : Type 0} → Lang S → Setting S → S
state_behind l s = (made_of l s).state

-- how a node begins that has no imports and no aliases
abbrev pub bare_start : {S : Type 0} → Lang S → List ℕ → S
bare_start l name = l.start name (Ordered []) no_aliases

-- the state that an import hands on, given the states behind evaluations
abbrev pub handed_on : {S : Type 0} → Lang S → (ℕ → Option S) → List ℕ → Last → Option S
handed_on l behind name Empty = Some (bare_start l name)
handed_on l behind name Open = None
handed_on l behind name (MadeBy e) = behind e

-- an import with its state
abbrev pub imported_state : {S : Type 0} → Lang S → (ℕ → Option S) → List ℕ × Last
    → Option (Imported S)
imported_state l behind one = option_map (λ state. record { name = one.0; state = state })
    (handed_on l behind one.0 one.1)

-- what a node has from its imports
abbrev pub imports_by : {S : Type 0} → Lang S → (ℕ → Option S) → List (List ℕ) → Key → Imports S
imports_by l behind names (Lasts lasts) = Ordered
    (filter_map (imported_state l behind) (zip names lasts))
imports_by l behind names (BadImport name) = Bad name

-- the state at the beginning of a node
abbrev pub beginning_state : {S : Type 0} → Lang S → (ℕ → Option S) → Head → S
beginning_state l behind head =
    l.start head.node (imports_by l behind head.imports head.key) head.aliases

-- the state that is taken up
abbrev pub taken_up_state : {S : Type 0} → Lang S → (ℕ → Option S) → Input → Option S
taken_up_state l behind (First head) = Some (beginning_state l behind head)
taken_up_state l behind (Next e) = behind e
taken_up_state l behind (Print e) = behind e

-- the setting of a number among those of older executions
abbrev pub setting_among : {S : Type 0} → List (Option (Setting S)) → ℕ → Option (Setting S)
setting_among settings e = option_and_then (λ s. s) (numbered settings e)

-- the state behind an evaluation of a number among them
abbrev pub behind_among : {S : Type 0} → Lang S → List (Option (Setting S)) → ℕ → Option S
behind_among l settings e = option_map (state_behind l) (setting_among settings e)

-- an execution more, by what it goes by
abbrev pub setting_by : {S : Type 0} → Lang S → List (Option (Setting S)) → Home
    → Option (Setting S)
setting_by l settings h =
    option_map (λ state. record { source = h.source; blob = h.blob; state = state })
    (taken_up_state l (behind_among l settings) h.input)

-- these with one execution more
abbrev pub with_setting : {S : Type 0} → Lang S → List (Option (Setting S)) → Home
    → List (Option (Setting S))
with_setting l settings h = setting_by l settings h ∷ settings

-- what each execution works on, the newest first
abbrev pub settings : {S : Type 0} → Lang S → List Home → List (Option (Setting S))
settings l [] = []
settings l (h ∷ hs) = with_setting l (settings l hs) h

-- what the execution of a number works on
abbrev pub setting : {S : Type 0} → Lang S → List Home → ℕ → Option (Setting S)
setting l homes e = setting_among (settings l homes) e
