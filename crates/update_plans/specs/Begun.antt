-- What new executions begin with (this project's own).
use Rattle.std.specs.Prelude.{◌≡◌, ℕ, suc, Bool, false, not, ◌&&◌, ◌||◌, List, [], ◌∷◌, ⊤, is_some}
use Rattle.std.specs.Option.{option_and_then}
use Rattle.pide_base.specs.declared.part.PartKind.{PartKind}
use Rattle.pide_base.specs.declared.part.PartKind.TheVariants as kind
use Rattle.core_tables.specs.Rows.{Row, execution_of}
use Rattle.core_tables.specs.Progress.{result_of}
use Rattle.core_tables.specs.declared.task.Task.{Task}
use Rattle.text_words.specs.Members.{has}
use Rattle.exec_rules.specs.declared.home.Home.{Home}
use Rattle.exec_rules.specs.declared.home.Input.{Input}
use Rattle.exec_rules.specs.declared.home.Input.TheVariants as input
use Rattle.core_rules.specs.Parts.{sources_of}
use Rattle.core_rules.specs.Ready.{priority_by}
use Rattle.update_plans.specs.declared.beginning.Fresh.{Fresh}

-- the first part of an execution that takes this up
abbrev pub first_kind : Input → PartKind
first_kind (input.Print e) = kind.Print
first_kind taken = kind.Eval

-- the evaluation is finished by the table
abbrev pub is_evaluated : {R : Type 0} → List (Row R) → ℕ → Bool
is_evaluated rows e =
    is_some (option_and_then (λ one. result_of kind.Eval one.progress) (execution_of rows e))

-- these sources are added, as far as they are not finished by the table
abbrev pub AddsUnfinished : {R : Type 0} → List (Row R) → List ℕ → List ℕ → List ℕ → Type 0
AddsUnfinished rows sources old new = (f : ℕ)
    → has new f ≡ (has old f || (has sources f && not (is_evaluated rows f)))

-- the task is that of the first part of an execution that takes this up: it waits for what that is
-- taken up from and is not finished by the table, and its command is not told to be visible
pub record IsFirstTask {R : Type 0} (rows : List (Row R)) (e : ℕ) (taken : Input) (task : Task)
    : Type 0 where
  pub exec : task.part.exec ≡ e
  pub same_kind : task.part.kind ≡ first_kind taken
  pub urgent : task.priority ≡ priority_by (first_kind taken) false
  pub waits : (f : ℕ) → has task.inputs f
      ≡ (has (sources_of taken) f && not (is_evaluated rows f))

-- the new execution of a number goes by this, and has its first task
pub record IsBegun {R : Type 0} (rows : List (Row R)) (e : ℕ) (home : Home) (one : Fresh)
    : Type 0 where
  pub home_is : one.known.home ≡ home
  pub task : IsFirstTask rows e home.input one.task

-- so do those with these homes, which have the numbers from this on
abbrev pub AreBegun : {R : Type 0} → List (Row R) → ℕ → List Home → List Fresh → Type 0
AreBegun rows e [] [] = ⊤
AreBegun rows e (home ∷ homes) (one ∷ more) =
    IsBegun rows e home one × AreBegun rows (suc e) homes more
AreBegun rows e homes more = ⊥
