-- The places between the symbols of a text, and their numbers (this project's own).
use Rattle.std.specs.Prelude.{ℕ, ◌+◌, ◌-◌, ◌<◌, ◌≤◌, List, ◌∷◌, length, map, slice_index, count_by, nat_le}
use Rattle.outer_syntax.specs.Symbols.{symbols_of}

-- where the first of these symbols begins, and where each ends
abbrev pub boundaries_of : List (ℕ × ℕ) → List ℕ
boundaries_of symbols = 0 ∷ map (λ s. s.1) symbols

-- where the symbols of the text begin, and its end
abbrev pub boundaries : List ℕ → List ℕ
boundaries text = boundaries_of (symbols_of text)

-- the last of the places
abbrev pub last_place : List ℕ → ℕ
last_place places = slice_index places (length places - 1)

-- the place is above the boundary of this number and below the next one
abbrev pub LiesBetween : List ℕ → ℕ → ℕ → Type 0
LiesBetween places n place = (slice_index places n < place) × (place < slice_index places (n + 1))

-- the number of the last boundary that isn't above the place: of the symbol that begins there or
-- has the place inside, or of all symbols at the text's end
abbrev pub number_at : List ℕ → ℕ → ℕ
number_at places place = count_by (λ b. nat_le b place) places - 1

-- each place is above the one before it
abbrev pub Rises : List ℕ → Type 0
Rises places = (i j : ℕ) → i < j → j < length places → slice_index places i < slice_index places j

-- no place is below the one before it
abbrev pub NeverFalls : List ℕ → Type 0
NeverFalls places =
    (i j : ℕ) → i ≤ j → j < length places → slice_index places i ≤ slice_index places j
