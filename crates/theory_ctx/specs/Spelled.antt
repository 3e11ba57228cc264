-- How a fact is spelled by its theory and its name.
use Rattle.std.specs.Prelude.{ℕ, List, ◌∷◌, ◌++◌}

-- T.n
abbrev pub long_name : List ℕ → List ℕ → List ℕ
long_name t n = t ++ 46 ∷ n
