-- What a list of numbers has.
use Rattle.std.specs.Prelude.{ℕ, Bool, ◌==◌, List}
use Rattle.std.specs.List.{list_any}

-- the number is among these
abbrev pub has : List ℕ → ℕ → Bool
has numbers n = list_any (λ other. n == other) numbers
