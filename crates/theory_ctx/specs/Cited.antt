-- The parts of a name, as a lookup reads them.
use Rattle.std.specs.Prelude.{◌≡◌, ℕ, List, [], ◌∷◌}
use Rattle.theory_ctx.specs.declared.cited.Cited.{Cited}
use Rattle.theory_ctx.specs.declared.cited.Cited.TheVariants.{Plain, Long, Longer}

-- a name as it was taken apart has just these parts
abbrev pub HasParts : Cited → List (List ℕ) → Type 0
HasParts (Plain name) parts = parts ≡ name.now ∷ []
HasParts (Long theory name) parts = parts ≡ theory.now ∷ name.now ∷ []
HasParts Longer parts =
    (a : List ℕ) × (b : List ℕ) × (c : List ℕ) × (more : List (List ℕ)) × (parts ≡ a ∷ b ∷ c ∷ more)
