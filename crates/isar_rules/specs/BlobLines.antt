-- The facts that a blob lists, a line each (this project's own).
use Rattle.std.specs.Prelude.{ℕ, ◌+◌, ◌==◌, Bool, not, ◌&&◌, ◌||◌, if◌then◌else◌, List, [], ◌∷◌, take, drop, Option, Some, None, Result, Ok, Err}
use Rattle.std.specs.List.{list_all, prefix_len, slice_split}
use Rattle.std.specs.Option.{option_map_or}
use Rattle.text_words.specs.Identifier.{is_identifier}
use Rattle.text_words.specs.Longest.{longest_front}
use Rattle.outer_syntax.specs.Words.{is_base_command, is_minor_keyword}
use Rattle.nj_formula.specs.declared.formula.Formula.{Formula}
use Rattle.nj_syntax.specs.Answer.{formula_of}
use Rattle.nj_syntax.specs.declared.fault.FormulaFault.{FormulaFault}

-- a name and a formula
abbrev pub Listed : Type 0
Listed = List ℕ × Formula

-- space and tab
abbrev pub is_gap : ℕ → Bool
is_gap c = c == 32 || c == 9

-- the text behind the spaces and tabs that it begins with
abbrev pub past_gap : List ℕ → List ℕ
past_gap text = drop (prefix_len is_gap text) text

-- the line without a CR at its end
abbrev pub without_cr : List ℕ → List ℕ
without_cr [] = []
without_cr (c ∷ []) = if c == 13 then [] else c ∷ []
without_cr (c ∷ d ∷ more) = c ∷ without_cr (d ∷ more)

-- a CR before an LF is dropped; what stands behind the last LF has none
abbrev pub lines_from : List (List ℕ) → List (List ℕ)
lines_from [] = []
lines_from (last ∷ []) = last ∷ []
lines_from (line ∷ next ∷ more) = without_cr line ∷ lines_from (next ∷ more)

-- the lines of a text, ended by LF or by its end
abbrev pub lines_of : List ℕ → List (List ℕ)
lines_of text = lines_from (slice_split (λ c. c == 10) text)

-- an identifier that is no word of the language's own
abbrev pub is_free_word : List ℕ → Bool
is_free_word word = not (is_base_command word) && not (is_minor_keyword word)

-- the formula of this name
abbrev pub listed_as : List ℕ → Result Formula FormulaFault → Option Listed
listed_as name (Ok f) = Some (name, f)
listed_as name (Err fault) = None

-- a name, and what stands behind it and behind spaces and tabs: `:` and a formula
abbrev pub named_fact : List ℕ → List ℕ → Option Listed
named_fact name [] = None
named_fact name (c ∷ more) =
    if c == 58 && is_free_word name then listed_as name (formula_of more) else None

-- the fact of a line: NAME `:` and a formula to its end
abbrev pub fact_in : List ℕ → Option Listed
fact_in line = option_map_or (λ n. named_fact (take n line) (past_gap (drop n line)))
    (longest_front is_identifier line) None

-- the fact of a line before those of later lines; the first bad line is told by its number
abbrev pub listed_before : ℕ → Option Listed → Result (List Listed) ℕ → Result (List Listed) ℕ
listed_before number None later = Err number
listed_before number (Some fact) (Ok facts) = Ok (fact ∷ facts)
listed_before number (Some fact) (Err line) = Err line

-- the facts of lines, the first of which has this number; a line of spaces and tabs is skipped
abbrev pub facts_from : ℕ → List (List ℕ) → Result (List Listed) ℕ
facts_from number [] = Ok []
facts_from number (line ∷ more) = if list_all is_gap line then facts_from (number + 1) more
    else listed_before number (fact_in line) (facts_from (number + 1) more)

-- the facts that a text lists, or the number of its first bad line, from 1
abbrev pub listed_facts : List ℕ → Result (List Listed) ℕ
listed_facts text = facts_from 1 (lines_of text)
