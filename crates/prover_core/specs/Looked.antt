-- Tables by number (this project's own).
use Rattle.std.specs.Prelude.{ℕ, ◌==◌, Option}
use Rattle.std.specs.HashMap.{HashMap}
use Rattle.std.specs.Map.{lookup}

-- what a table has at a number
abbrev pub looked : {T S : Type 0} → HashMap ℕ T S → ℕ → Option T
looked table e = lookup (λ x. e == x) table.entries
