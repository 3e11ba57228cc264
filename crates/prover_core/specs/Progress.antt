-- How far executions are, with what came of their parts (this project's own).
use Rattle.std.specs.Prelude.{◌≡◌, ℕ, Bool, true, false, not, ◌&&◌, if◌then◌else◌, List, Option, Some, None}
use Rattle.std.specs.Option.{option_map, option_and_then}
use Rattle.text_words.specs.Members.{has}
use Rattle.pide_base.specs.declared.part.Part.{Part}
use Rattle.pide_base.specs.declared.part.PartKind.{PartKind}
use Rattle.pide_base.specs.declared.part.PartKind.TheVariants as kind
use Rattle.core_tables.specs.declared.execution.Execution.{Execution}
use Rattle.core_tables.specs.declared.execution.Progress.{Progress}
use Rattle.core_tables.specs.declared.execution.Progress.TheVariants as progress
use Rattle.exec_rules.specs.declared.home.Home.{Home}
use Rattle.exec_rules.specs.declared.home.Input.{Input}
use Rattle.exec_rules.specs.declared.home.Input.TheVariants as input
use Rattle.language.specs.Lang.{Lang}
use Rattle.core_rules.specs.declared.event.Event.{Event}
use Rattle.core_rules.specs.Numbered.{numbered}
use Rattle.core_rules.specs.Assigned.{is_assigned}
use Rattle.core_rules.specs.Settings.{Setting, made_of, setting}
use Rattle.core_rules.specs.Parts.{forks}
use Rattle.core_rules.specs.Standing.{is_finished}
use Rattle.core_rules.specs.Doc.{Doc}
use Rattle.core_jobs.specs.declared.done.Done.{Done}
use Rattle.core_jobs.specs.Runs.{done_in}

-- which parts of an execution are finished
pub record Completed : Type 0 where
  pub eval : Bool
  pub fork : Bool
  pub print : Bool

-- the part of this kind of an execution
abbrev pub part : ℕ → PartKind → Part
part e k = record { exec = e; kind = k }

-- a fork is finished behind its evaluation alone
abbrev pub InOrder : Completed → Type 0
InOrder c = c.fork ≡ true → c.eval ≡ true

-- which parts of the execution are finished after these events
abbrev pub completed_in : List Event → ℕ → Completed
completed_in h e = record {
  eval = is_finished h (part e kind.Eval);
  fork = is_finished h (part e kind.Fork);
  print = is_finished h (part e kind.Print);
}

-- this part is finished as well
abbrev pub and_also : PartKind → Completed → Completed
and_also kind.Eval c = record c { eval = true }
and_also kind.Fork c = record c { fork = true }
and_also kind.Print c = record c { print = true }

-- the part that comes behind one that is finished: the fork of an evaluation whose command forks
abbrev pub kind_behind : PartKind → Bool → Option PartKind
kind_behind kind.Eval true = Some kind.Fork
kind_behind k forking = None

-- the first unfinished part, by what the execution takes up and whether its command forks
abbrev pub next_kind : Input → Bool → Completed → Option PartKind
next_kind (input.Print source) forking c = if c.print then None else Some kind.Print
next_kind taken forking c = if c.eval
    then (if forking && not c.fork then Some kind.Fork else None) else Some kind.Eval

-- how far an evaluation is whose own part is finished, by what its parts bring
abbrev pub behind_eval : {R : Type 0} → (PartKind → R) → Bool → Bool → Progress R
behind_eval brings false forked = progress.Evaluated (brings kind.Eval)
behind_eval brings true false = progress.Forking (brings kind.Eval)
behind_eval brings true true = progress.Forked (brings kind.Eval) (brings kind.Fork)

-- how far an execution is, by what its parts bring and which of them are finished
abbrev pub progress_by : {R : Type 0} → (PartKind → R) → Bool → Input → Completed → Progress R
progress_by brings forking (input.Print source) c =
    if c.print then progress.Printed (brings kind.Print) else progress.Printing
progress_by brings forking taken c =
    if c.eval then behind_eval brings forking c.fork else progress.Evaluating

-- what comes of a part of this kind of the execution, in a setting
abbrev pub result : {S : Type 0} → Lang S → ℕ → Setting S → PartKind → Done S
result l e s k = done_in l (part e k) s

-- how far an execution is in a setting, and whether it is cancelled
abbrev pub execution_by : {S : Type 0} → Lang S → Bool → ℕ → Completed → Home → Setting S
    → Execution (Done S)
execution_by l cancelled e c home s = record {
  cancelled = cancelled;
  progress = progress_by (result l e s) (made_of l s).forks home.input c;
}

-- how far an execution is that goes by this, where it is known
abbrev pub row_by : {S : Type 0} → Lang S → Bool → ℕ → Completed → Option Home
    → Option (Setting S) → Option (Execution (Done S))
row_by l cancelled e c home s =
    option_and_then (λ x. option_map (execution_by l cancelled e c x) s) home

-- what the table has of an execution: nothing where no live version assigns it
abbrev pub row_of : {S : Type 0} → Lang S → List Event → Doc → ℕ → Option (Execution (Done S))
row_of l h d e = if is_assigned d.live e
    then row_by l (has d.cancelled e) e (completed_in h e) (numbered d.homes e)
    (setting l d.homes e)
    else None

-- the first unfinished part of an execution
abbrev pub next_of : {S : Type 0} → Lang S → List Event → Doc → ℕ → Option PartKind
next_of l h d e = option_and_then
    (λ home. next_kind home.input (forks l d.homes e) (completed_in h e)) (numbered d.homes e)
