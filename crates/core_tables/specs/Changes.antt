-- What calls of a queue change.
use Rattle.std.specs.Prelude.{◌≡◌, ℕ, ◌==◌, true, false, List, [], ◌∷◌, Option, Some, None, if◌then◌else◌}
use Rattle.std.specs.Option.{option_map_or}
use Rattle.pide_base.specs.declared.part.PartKind.{PartKind}
use Rattle.core_tables.specs.declared.priority.Priority.{Priority}
use Rattle.core_tables.specs.declared.task.Standing.{Standing}
use Rattle.core_tables.specs.declared.task.Task.{Task}
use Rattle.text_words.specs.Members.{has}
use Rattle.core_tables.specs.Tasks.{Queue, standing, is_ready}

-- how a task stands that was put in
abbrev pub waiting : Task → Standing
waiting task = record {
  kind = task.part.kind;
  priority = task.priority;
  inputs = task.inputs;
  held = false;
}

-- the task is taken
abbrev pub taken_task : Standing → Standing
taken_task s = record s { held = true }

-- a set without an execution, which stands in it once at most
abbrev pub removed : ℕ → List ℕ → List ℕ
removed e [] = []
removed e (x ∷ xs) = if e == x then xs else x ∷ removed e xs

-- the task waits no more for the execution
abbrev pub without : ℕ → Standing → Standing
without e s = record s { inputs = removed e s.inputs }

-- the task has another priority
abbrev pub with_priority : Priority → Standing → Standing
with_priority p s = record s { priority = p }

-- no task waits for the execution
abbrev pub nobody_waits : Queue → ℕ → Type 0
nobody_waits queue e =
    (f : ℕ) → option_map_or (λ s. has s.inputs e) (standing queue f) false ≡ false

-- somebody has taken the part
abbrev pub IsHeld : Option Standing → Type 0
IsHeld o = (s : Standing) × (o ≡ Some s) × (s.held ≡ true)

-- the kind of a part that is ready
abbrev pub kind_if_ready : Standing → Option PartKind
kind_if_ready s = if is_ready s then Some s.kind else None

-- the kind of a part that is ready, where there is a part
abbrev pub ready_kind : Option Standing → Option PartKind
ready_kind None = None
ready_kind (Some s) = kind_if_ready s

-- the kind of a part that is ready once it waits no more for the execution, and was not before
abbrev pub released : ℕ → Option Standing → Option PartKind
released e None = None
released e (Some s) = if has s.inputs e then kind_if_ready (without e s) else None
