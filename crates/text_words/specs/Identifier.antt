-- Identifiers, over bytes or scalars alike (Isabelle's outer syntax, in ASCII).
use Rattle.std.specs.Prelude.{◌↔◌, ℕ, Bool, false, ◌&&◌, ◌||◌, ◌==◌, IsTrue, List, [], ◌∷◌, All}
use Rattle.std.specs.Char.{is_ascii_alphabetic, is_ascii_alphanumeric}
use Rattle.std.specs.List.{list_all}

-- what an identifier goes on with: an ASCII letter or digit, `_` or `'`
abbrev pub is_identifier_part : ℕ → Bool
is_identifier_part c = is_ascii_alphanumeric c || c == 95 || c == 39

-- an ASCII letter, then what an identifier goes on with
abbrev pub IsIdentifier : List ℕ → Type 0
IsIdentifier [] = ⊥
IsIdentifier (c ∷ cs) = IsTrue (is_ascii_alphabetic c) × All (λ d. IsTrue (is_identifier_part d)) cs

-- the same as a test
abbrev pub is_identifier : List ℕ → Bool
is_identifier [] = false
is_identifier (c ∷ cs) = is_ascii_alphabetic c && list_all is_identifier_part cs

-- the test says yes of the identifiers alone
abbrev pub TestsIdentifiers : Type 0
TestsIdentifiers = (s : List ℕ) → (IsTrue (is_identifier s)) ↔ (IsIdentifier s)
