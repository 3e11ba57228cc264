-- The symbols of a text (after Isabelle's symbols, in ASCII).
use Rattle.std.specs.Prelude.{◌≡◌, ◌⊎◌, ℕ, zero, suc, ◌<◌, ◌+◌, ◌-◌, List, [], ◌∷◌, length, drop, Option, None, Some}
use Rattle.text_words.specs.Longest.{IsLongest, longest_front}
use Rattle.outer_syntax.specs.Names.{IsNamedSymbol, is_named_symbol}

-- a named symbol, or one scalar
abbrev pub IsSymbol : List ℕ → Type 0
IsSymbol s = IsNamedSymbol s ⊎ (length s ≡ 1)

-- the longest symbol at one place of the text ends at another
abbrev pub IsSymbolAt : List ℕ → ℕ → ℕ → Type 0
IsSymbolAt text start stop = (start < stop) × IsLongest IsSymbol (drop start text) (stop - start)

-- the symbols of the text from one place to another, one after the other
abbrev pub AreSymbolsBetween : List ℕ → ℕ → ℕ → List (ℕ × ℕ) → Type 0
AreSymbolsBetween text from to [] = from ≡ to
AreSymbolsBetween text from to (s ∷ ss) =
    (s.0 ≡ from) × IsSymbolAt text from s.1 × AreSymbolsBetween text s.1 to ss

-- the start and stop of each symbol of the text, which join to it
abbrev pub AreSymbols : List ℕ → List (ℕ × ℕ) → Type 0
AreSymbols text symbols = AreSymbolsBetween text 0 (length text) symbols

-- so many symbols end before the place or at it, where the next begins
abbrev pub IsBoundary : List ℕ → ℕ → ℕ → Type 0
IsBoundary text symbol place =
    (before : List (ℕ × ℕ)) × AreSymbolsBetween text 0 place before × (length before ≡ symbol)

-- the place is inside of the symbol of this number
abbrev pub IsInside : List ℕ → ℕ → ℕ → Type 0
IsInside text symbol place = (start : ℕ) × (stop : ℕ) × IsBoundary text symbol start
    × IsSymbolAt text start stop × (start < place) × (place < stop)

-- a length that was found, or one scalar
abbrev pub found_or_one : Option ℕ → ℕ
found_or_one None = 1
found_or_one (Some n) = n

-- how many scalars the symbol at the front has: those of the longest named symbol, else one
abbrev pub symbol_len : List ℕ → ℕ
symbol_len text = found_or_one (longest_front is_named_symbol text)

-- the symbols of a text that begins at the place and whose first scalars are left out
abbrev pub symbols_from : ℕ → ℕ → List ℕ → List (ℕ × ℕ)
symbols_from left_out place [] = []
symbols_from (suc k) place (c ∷ cs) = symbols_from k (place + 1) cs
symbols_from zero place (c ∷ cs) =
    (place, place + symbol_len (c ∷ cs)) ∷ symbols_from (symbol_len (c ∷ cs) - 1) (place + 1) cs

-- the symbols of the text, as a function: `AreSymbols` holds of just this list
abbrev pub symbols_of : List ℕ → List (ℕ × ℕ)
symbols_of text = symbols_from 0 0 text
