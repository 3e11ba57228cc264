-- The order in which ready tasks are taken (this project's own).
use Rattle.std.specs.Prelude.{ℕ, Bool, ◌&&◌, ◌||◌, ◌==◌, nat_lt}
use Rattle.core_tables.specs.declared.priority.Priority.{Priority}
use Rattle.core_tables.specs.declared.priority.Priority.TheVariants as priority

-- how high a priority is
abbrev pub height : Priority → ℕ
height priority.Fork = 0
height priority.Print = 1
height priority.Eval = 2
height priority.VisibleEval = 3

-- the first execution is taken before the second: its priority is higher, or the same and its id
-- lower
abbrev pub goes_before : Priority → ℕ → Priority → ℕ → Bool
goes_before p e q f = nat_lt (height q) (height p) || (height p == height q && nat_lt e f)
