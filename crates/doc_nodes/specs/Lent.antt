-- Aliases that are lent.
use Rattle.std.specs.Prelude.{ℕ, List}
use Rattle.std.specs.Borrow.{Bor}

-- what a lent alias is
abbrev pub lent : Bor (List ℕ) × Bor (List ℕ) → List ℕ × List ℕ
lent pair = (pair.0.now, pair.1.now)
