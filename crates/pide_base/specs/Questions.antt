-- Counts of questions, which rise like those of faults and of yes answers.
use Rattle.std.specs.Prelude.{◌≡◌, ◌≤◌, ℕ, zero, suc}
use Rattle.pide_base.specs.Faults.{risen}

-- the count after so many questions (this project's own)
abbrev pub risen_by : ℕ → ℕ → ℕ
risen_by zero count = count
risen_by (suc n) count = risen_by n (risen count)

-- at most so many questions lie between the two counts (this project's own)
abbrev pub IsAskedUpTo : ℕ → ℕ → ℕ → Type 0
IsAskedUpTo most before now = (n : ℕ) × (n ≤ most) × (now ≡ risen_by n before)
