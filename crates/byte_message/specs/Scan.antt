-- The numbers of a text, read byte by byte, as far as they matter.
use Rattle.std.specs.Prelude.{◌==◌, ℕ, ◌+◌, ◌-◌, ◌*◌, min, cond, List, [], ◌∷◌, Option, Some, None, option_map}
use Rattle.std.specs.Option.{unwrap_or}
use Rattle.byte_message.specs.Limits.{longest_chunk}
use Rattle.byte_message.specs.Line.{is_digit}

-- a length, where more than the longest chunk's is told as one more than that
abbrev pub clamp : ℕ → ℕ
clamp n = min n (longest_chunk + 1)

-- a number with one more digit
abbrev pub grown : Option ℕ → ℕ → ℕ
grown before digit = clamp (unwrap_or before 0 * 10 + (digit - 48))

-- a number that has ended, before those that come after its comma
abbrev pub ended : Option ℕ → Option (List ℕ) → Option (List ℕ)
ended None after = None
ended (Some n) after = option_map (λ ns. n ∷ ns) after

-- the numbers of a text whose first digits, read before, have this value
abbrev pub scan : Option ℕ → List ℕ → Option (List ℕ)
scan None [] = None
scan (Some n) [] = Some (n ∷ [])
scan before (b ∷ bs) = cond (is_digit b) (scan (Some (grown before b)) bs)
    (cond (b == 44) (ended before (scan None bs)) None)
