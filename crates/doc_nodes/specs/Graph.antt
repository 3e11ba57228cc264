-- What contracts see of a graph of imports.
use Rattle.std.specs.Prelude.{ℕ, Bool, List, Option}

-- the places of each node's imports, the places in the order of imports, and a mark for each
-- ordered node (this project's own)
pub record Graph : Type 0 where
  pub aims : List (List (Option ℕ))
  pub order : List ℕ
  pub marks : List Bool
