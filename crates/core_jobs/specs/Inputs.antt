-- What a job takes up, by what a table of executions has (this project's own).
use Rattle.std.specs.Prelude.{ℕ, List, [], ◌∷◌, zip, Option, Some, None}
use Rattle.std.specs.Option.{option_map, option_and_then}
use Rattle.pide_base.specs.declared.part.PartKind.TheVariants as kind
use Rattle.core_tables.specs.declared.execution.Execution.{Execution}
use Rattle.core_tables.specs.Rows.{Row, execution_of}
use Rattle.core_tables.specs.Progress.{result_of}
use Rattle.doc_nodes.specs.Imports.{NodeList, place_of}
use Rattle.core_rules.specs.exec_rules_below.declared.key.Last.{Last}
use Rattle.core_rules.specs.exec_rules_below.declared.key.Last.TheVariants.{Empty, Open, Made as MadeBy}
use Rattle.core_rules.specs.exec_rules_below.declared.key.Key.{Key}
use Rattle.core_rules.specs.exec_rules_below.declared.key.Key.TheVariants.{Lasts, BadImport}
use Rattle.core_rules.specs.exec_rules_below.declared.home.Input.{Input as Home}
use Rattle.core_rules.specs.exec_rules_below.declared.home.Input.TheVariants as home
use Rattle.core_rules.specs.language_below.declared.made.Imported.{Imported}
use Rattle.core_rules.specs.language_below.declared.made.Imports.{Imports}
use Rattle.core_rules.specs.language_below.declared.made.Imports.TheVariants.{Ordered, Bad}
use Rattle.core_rules.specs.language_below.Lang.{Lang}
use Rattle.core_rules.specs.Settings.{bare_start}
use Rattle.core_jobs.specs.declared.done.Done.{Done}
use Rattle.core_jobs.specs.declared.input.Input.{Input}
use Rattle.core_jobs.specs.declared.input.Input.TheVariants as input

-- the state that an evaluation left, by what has come of it
abbrev pub state_left : {S : Type 0} → Done S → Option S
state_left done = option_map (λ made. made.state) done.made

-- the state behind an execution's evaluation, where that is finished
abbrev pub state_of : {S : Type 0} → Option (Execution (Done S)) → Option S
state_of execution =
    option_and_then (λ x. option_and_then state_left (result_of kind.Eval x.progress)) execution

-- the state behind an evaluation that a table has, where it is finished
abbrev pub known_state : {S : Type 0} → List (Row (Done S)) → ℕ → Option S
known_state rows e = state_of (execution_of rows e)

-- the state that an import hands on: one without commands is a node of these
abbrev pub found_state : {S : Type 0} → Lang S → NodeList → (ℕ → Option S) → List ℕ → Last
    → Option S
found_state l nodes known name Empty = option_map (λ q. bare_start l name) (place_of nodes name)
found_state l nodes known name Open = None
found_state l nodes known name (MadeBy e) = known e

-- an import with its state
abbrev pub found_import : {S : Type 0} → Lang S → NodeList → (ℕ → Option S) → List ℕ × Last
    → Option (Imported S)
found_import l nodes known one = option_map (λ state. record { name = one.0; state = state })
    (found_state l nodes known one.0 one.1)

-- this and then these, where both are there
abbrev pub both_there : {A : Type 0} → Option A → Option (List A) → Option (List A)
both_there (Some x) (Some xs) = Some (x ∷ xs)
both_there x xs = None

-- all imports with their states, where each state is there
abbrev pub all_imported : {S : Type 0} → Lang S → NodeList → (ℕ → Option S) → List (List ℕ × Last)
    → Option (List (Imported S))
all_imported l nodes known [] = Some []
all_imported l nodes known (one ∷ more) =
    both_there (found_import l nodes known one) (all_imported l nodes known more)

-- what a node has from its imports, where each state is there
abbrev pub found_imports : {S : Type 0} → Lang S → NodeList → (ℕ → Option S) → List (List ℕ) → Key
    → Option (Imports S)
found_imports l nodes known names (Lasts lasts) =
    option_map Ordered (all_imported l nodes known (zip names lasts))
found_imports l nodes known names (BadImport name) = Some (Bad name)

-- what a job takes up, where each state is there
abbrev pub found_input : {S : Type 0} → Lang S → NodeList → (ℕ → Option S) → Home → Option (Input S)
found_input l nodes known (home.First head) =
    option_map (input.Start head) (found_imports l nodes known head.imports head.key)
found_input l nodes known (home.Next e) = option_map input.State (known e)
found_input l nodes known (home.Print e) = option_map input.State (known e)
