-- A header line: which lines are fit, and what is wrong with the others.
use Rattle.std.specs.Prelude.{◌==◌, ℕ, ◌+◌, ◌-◌, ◌*◌, Bool, false, cond, nat_lt, nat_le, ◌&&◌, List, [], ◌∷◌, length, take, map, Option, Some, None, option_map, Result, Ok, Err}
use Rattle.std.specs.List.{list_all, slice_index_or}
use Rattle.byte_message.specs.Limits.{longest_line, most_chunks, longest_chunk}
use Rattle.byte_message.specs.declared.line_fault.LineFault.{LineFault}
use Rattle.byte_message.specs.declared.line_fault.LineFault.TheVariants.{BadHeader, TooMany, TooLong}

-- a decimal digit
abbrev pub is_digit : ℕ → Bool
is_digit b = nat_le 48 b && nat_le b 57

-- one or more digits; leading zeros are allowed
abbrev pub is_numeral : List ℕ → Bool
is_numeral [] = false
is_numeral (d ∷ ds) = list_all is_digit (d ∷ ds)

-- the number that n and these digits after it are in decimal
abbrev pub value_on : ℕ → List ℕ → ℕ
value_on n [] = n
value_on n (d ∷ ds) = value_on (n * 10 + (d - 48)) ds

-- the byte before the first of these texts
abbrev pub onto_first : ℕ → List (List ℕ) → List (List ℕ)
onto_first b [] = (b ∷ []) ∷ []
onto_first b (text ∷ texts) = (b ∷ text) ∷ texts

-- a text cut at its commas
abbrev pub between_commas : List ℕ → List (List ℕ)
between_commas [] = [] ∷ []
between_commas (b ∷ bs) = cond (b == 44) ([] ∷ between_commas bs) (onto_first b (between_commas bs))

-- the decimal numbers that a text is, joined by commas
abbrev pub comma_numbers : List ℕ → Option (List ℕ)
comma_numbers text = cond (list_all is_numeral (between_commas text))
    (Some (map (λ numeral. value_on 0 numeral) (between_commas text))) None

-- a line without the CR at its end (this project's own leniency)
abbrev pub without_cr : List ℕ → List ℕ
without_cr line =
    cond (slice_index_or line (length line - 1) 0 == 13) (take (length line - 1) line) line

-- the place of the first chunk that is too long
abbrev pub too_long : List ℕ → Option ℕ
too_long [] = None
too_long (n ∷ lengths) =
    cond (nat_lt longest_chunk n) (Some 0) (option_map (λ chunk. chunk + 1) (too_long lengths))

-- so many chunks, of which none or this one is too long
abbrev pub judge_lengths : List ℕ → Option ℕ → Result (List ℕ) LineFault
judge_lengths lengths None = Ok lengths
judge_lengths lengths (Some chunk) = Err (TooLong chunk)

-- the numbers of a line, if it has nothing else: at most so many chunks, none too long
abbrev pub judge_numbers : Option (List ℕ) → Result (List ℕ) LineFault
judge_numbers None = Err BadHeader
judge_numbers (Some lengths) = cond (nat_lt most_chunks (length lengths))
    (Err (TooMany (length lengths))) (judge_lengths lengths (too_long lengths))

-- the lengths of the chunks that a line names, or the first thing that is wrong with it: too many
-- bytes, or no decimal numbers joined by commas; too many of them; a chunk that is too long
-- (Isabelle's byte messages, with this project's own limits)
abbrev pub judge : List ℕ → Result (List ℕ) LineFault
judge line =
    cond (nat_lt longest_line (length line)) (Err BadHeader)
    (judge_numbers (comma_numbers (without_cr line)))
