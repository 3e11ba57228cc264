-- Bytes that are written piece by piece (this project's own).
use Rattle.std.specs.Prelude.{◌≡◌, ℕ, List, ◌++◌, Option}
use Rattle.std.specs.Io.KnownBytes.{Appends}

-- all these bytes are on their way: a front of them is written, some wait, and the rest comes
-- behind
abbrev pub AreOnTheirWay : Option (List ℕ) → Option (List ℕ) → List ℕ → List ℕ → List ℕ → Type 0
AreOnTheirWay first held waiting rest all =
    (front : List ℕ) × (all ≡ front ++ (waiting ++ rest)) × Appends first held front
