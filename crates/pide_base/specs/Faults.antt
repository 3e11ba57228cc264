-- Counts of faults and of yes answers: numbers of 64 bits that never fall and stand still at
-- their end.
use Rattle.std.specs.Prelude.{◌≡◌, ℕ, ◌+◌, ◌-◌, ◌^◌, ◌≤◌, min, Bool, true, false}

-- one more, but never past the type's end (this project's own)
abbrev pub risen : ℕ → ℕ
risen n = min (n + 1) (2 ^ 64 - 1)

-- the count rose in a call: it is greater after than before, or it stood at its end (this
-- project's own)
abbrev pub Rose : ℕ → ℕ → Type 0
Rose before now = risen before ≤ now

-- the count is one higher after a yes, and as it was after a no (this project's own)
abbrev pub CountsYes : ℕ → ℕ → Bool → Type 0
CountsYes before now true = now ≡ risen before
CountsYes before now false = now ≡ before
