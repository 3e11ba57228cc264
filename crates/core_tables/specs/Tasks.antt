-- The tasks of a queue, by execution (this project's own).
use Rattle.std.specs.Prelude.{ℕ, ◌==◌, Bool, not, ◌&&◌, List, length, Option}
use Rattle.std.specs.Map.{lookup}
use Rattle.pide_base.specs.declared.part.Part.{Part}
use Rattle.core_tables.specs.declared.task.Standing.{Standing}

-- what contracts see of a queue: how the present part of each execution stands, the ready parts in
-- order, and the room for more tasks and more inputs
pub record Queue : Type 0 where
  pub tasks : List (ℕ × Standing)
  pub ready : List Part
  pub room : ℕ
  pub links : ℕ

-- how the present part of an execution stands: none where the queue has none
abbrev pub standing : Queue → ℕ → Option Standing
standing queue e = lookup (λ x. e == x) queue.tasks

-- nobody has taken the part, and all that it waited for is done
abbrev pub is_ready : Standing → Bool
is_ready s = not s.held && (length s.inputs == 0)
