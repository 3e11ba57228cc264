-- Places of a text counted in symbols from 1 (after the offsets of Isabelle's positions).
use Rattle.std.specs.Prelude.{◌≡◌, ◌⊎◌, ℕ, ◌+◌, ◌-◌, ◌<◌, List, length, count_by, nat_le, slice_get}
use Rattle.std.specs.Option.{option_map_or}
use Rattle.pide_base.specs.declared.range.Range.{Range}
use Rattle.outer_syntax.specs.Symbols.{IsBoundary, IsInside, symbols_of}
use Rattle.outer_syntax.specs.Boundaries.{boundaries}

-- one more than the number of the symbol that begins at the place or has it inside, or of all
-- symbols at the text's end
abbrev pub IsSymbolPlace : List ℕ → ℕ → ℕ → Type 0
IsSymbolPlace text place number =
    (n : ℕ) × (IsBoundary text n place ⊎ IsInside text n place) × (number ≡ n + 1)

-- one more than the number of symbols that end at the place or before it, as a function:
-- `IsSymbolPlace` holds of just this number
abbrev pub symbol_place : List ℕ → ℕ → ℕ
symbol_place text place = count_by (λ s. nat_le s.1 place) (symbols_of text) + 1

-- the range between the places of its ends
abbrev pub symbol_range : List ℕ → Range → Range
symbol_range text range =
    record { start = symbol_place text range.start; stop = symbol_place text range.stop }

-- no symbol has an end of the range inside, and the range has one symbol at least
pub record StandsOnSymbols (text : List ℕ) (range : Range) : Type 0 where
  pub starts : (n : ℕ) × IsBoundary text n range.start
  pub stops : (n : ℕ) × IsBoundary text n range.stop
  pub filled : range.start < range.stop

-- the place in scalars where the symbol of a number begins, counted from 1; the text's end for
-- higher numbers
abbrev pub scalar_place : List ℕ → ℕ → ℕ
scalar_place text number =
    option_map_or (λ place. place) (slice_get (boundaries text) (number - 1)) (length text)

-- the range in scalars that one in symbols stands for
abbrev pub scalar_range : List ℕ → Range → Range
scalar_range text range =
    record { start = scalar_place text range.start; stop = scalar_place text range.stop }
