-- How a text grows.
use Rattle.std.specs.Prelude.{◌≡◌, ℕ, List, ◌++◌}

-- the text grows by a piece that is one of these
pub record Adds (old new : List ℕ) (Is : List ℕ → Type 0) : Type 0 where
  pub piece : List ℕ
  pub is : Is piece
  pub added : new ≡ old ++ piece
