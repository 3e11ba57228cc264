-- A list that is cut at its first separator.
use Rattle.std.specs.Prelude.{◌≡◌, ℕ, ◌+◌, Bool, List, ◌∷◌, length}
use Rattle.std.specs.List.{slice_split}

-- the first piece of the list stands before the separator, and its other pieces are those of what
-- follows
pub record IsCut (separates : ℕ → Bool) (whole before after : List ℕ) : Type 0 where
  pub pieces : slice_split separates whole ≡ before ∷ slice_split separates after
  pub sizes : length before + length after + 1 ≡ length whole
