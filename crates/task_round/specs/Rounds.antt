-- Which tasks were done, and what they made (this project's own).
use Rattle.std.specs.Prelude.{◌≡◌, ⊤, ℕ, ◌+◌, List, [], ◌∷◌}
use Rattle.std.specs.List.{sum_by, range_with_len}

-- these are the tasks below a number, each once: whatever each of them weighs, they weigh as much
abbrev pub AreAll : ℕ → List ℕ → Type 0
AreAll count tasks = (weight : ℕ → ℕ) → sum_by weight tasks ≡ sum_by weight (range_with_len 0 count)

module _ {M : Type 0} (makes : ℕ → M → Type 0) where
  -- what the tasks make that come from this one on
  abbrev pub AreMade : ℕ → List M → Type 0
  AreMade task [] = ⊤
  AreMade task (made ∷ more) = makes task made × AreMade (task + 1) more
