-- The names of the facts that a blob lists are plain.
use Rattle.std.proofs.Common.{◌≡◌, ℕ, ◌+◌, ◌==◌, ◌&&◌, Bool, true, false, cond, List, [], ◌∷◌, take}
use Rattle.std.proofs.Common.{drop, Option, Some, None, IfSome, Result, Ok, Err}
use Rattle.std.specs.Prelude.{⊤}
use Rattle.std.specs.List.{AllByRecursion, list_all}
use Rattle.std.specs.Option.{option_map_or}
use Rattle.text_words.specs.Identifier.{is_identifier}
use Rattle.text_words.specs.Longest.{longest_front, FindsLongest}
use Rattle.text_words.proofs.KnownFronts.{found-front}
use Rattle.nj_formula.specs.declared.formula.Formula.{Formula}
use Rattle.nj_syntax.specs.Answer.{formula_of}
use Rattle.nj_syntax.specs.declared.fault.FormulaFault.{FormulaFault}
use Rattle.isar_rules.specs.BlobLines.{Listed, is_gap, past_gap, lines_of, is_free_word, listed_as}
use Rattle.isar_rules.specs.BlobLines.{named_fact, fact_in, listed_before, facts_from, listed_facts}
use Rattle.editor_laws.proofs.PlainTexts.{Plain, tested_plain}

abbrev pub ListedPlain : Listed → Type 0
ListedPlain fact = Plain fact.0

listed_plain : (x : List ℕ) (r : Result Formula FormulaFault) → Plain x
    → IfSome (listed_as x r) ListedPlain
listed_plain x (Ok f) plain = plain
listed_plain x (Err fault) plain = tt

named_plain : (x text : List ℕ) → Plain x → IfSome (named_fact x text) ListedPlain
named_plain x [] plain = tt
named_plain x (c ∷ more) plain = go (c == 58 && is_free_word x)
  where
    go : (b : Bool) → IfSome (cond b (listed_as x (formula_of more)) None) ListedPlain
    go true = listed_plain x (formula_of more) plain
    go false = tt

fact_plain : (line : List ℕ) → IfSome (fact_in line) ListedPlain
fact_plain line = go (longest_front is_identifier line) (found-front is_identifier line)
  where
    go : (o : Option ℕ) → FindsLongest (λ s. is_identifier s ≡ true) line o
        → IfSome (option_map_or
        (λ n. named_fact (take n line) (past_gap (drop n line))) o None) ListedPlain
    go None finds = tt
    go (Some n) finds =
        named_plain (take n line) (past_gap (drop n line)) (tested_plain (take n line) finds.fits)

abbrev pub AllListed : Result (List Listed) ℕ → Type 0
AllListed (Ok facts) = AllByRecursion ListedPlain facts
AllListed (Err line) = ⊤

before_plain : (number : ℕ) (o : Option Listed) (later : Result (List Listed) ℕ)
    → IfSome o ListedPlain → AllListed later → AllListed (listed_before number o later)
before_plain number None later plain all = tt
before_plain number (Some fact) (Ok facts) plain all = (plain, all)
before_plain number (Some fact) (Err line) plain all = tt

from_plain : (number : ℕ) (lines : List (List ℕ)) → AllListed (facts_from number lines)
from_plain number [] = tt
from_plain number (line ∷ more) = go (list_all is_gap line) (from_plain (number + 1) more)
  where
    go : (b : Bool) → AllListed (facts_from (number + 1) more)
        → AllListed (cond b (facts_from (number + 1) more)
        (listed_before number (fact_in line) (facts_from (number + 1) more)))
    go true later = later
    go false later =
        before_plain number (fact_in line) (facts_from (number + 1) more) (fact_plain line) later

pub facts_plain : (text : List ℕ) → AllListed (listed_facts text)
facts_plain text = from_plain 1 (lines_of text)
