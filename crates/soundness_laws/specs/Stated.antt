-- The facts that commands state, read off them from front to back (after the commands of Isabelle's
-- Isar, Wenzel 1999; this project's own).
use Rattle.std.specs.Prelude.{if◌then◌else◌, ℕ, zero, suc, pred, Bool, true, false, List, [], ◌∷◌, ◌++◌, filter_map, Option, Result, Ok, Err}
use Rattle.std.specs.Option.{option_map_or}
use Rattle.nj_formula.specs.declared.formula.Formula.{Formula}
use Rattle.core_rules.specs.Settings.{Setting}
use Rattle.isar_rules.specs.declared.shape.Shape.{Shape}
use Rattle.isar_rules.specs.declared.shape.Shape.TheVariants as shape
use Rattle.isar_rules.specs.declared.state.State.{State}
use Rattle.isar_rules.specs.BlobLines.{Listed, listed_facts}
use Rattle.isar_rules.specs.Errors.{Tried, formula_in}
use Rattle.soundness_laws.specs.Axioms.{shape_in}

-- how many goals are open behind a command, where so many are before it: `lemma`, `have` and `show`
-- open one each, `by` and `qed` close one
abbrev pub goals_behind : ℕ → Shape → ℕ
goals_behind n (shape.Lemma name quoted) = suc n
goals_behind n (shape.Have name quoted) = suc n
goals_behind n (shape.Show quoted) = suc n
goals_behind n shape.By = pred n
goals_behind n shape.Qed = pred n
goals_behind n other = n

-- so many open goals are closed by the commands behind them
abbrev pub are_closed : ℕ → List Shape → Bool
are_closed zero later = true
are_closed (suc n) [] = false
are_closed (suc n) (s ∷ later) = are_closed (goals_behind (suc n) s) later

-- a formula under its name, where the quoted text is one
abbrev pub stated_fact : List ℕ → Tried Formula → List Listed
stated_fact name (Ok f) = (name, f) ∷ []
stated_fact name (Err text) = []

-- the facts of a blob, where all of its lines are good
abbrev pub lines_in : Result (List Listed) ℕ → List Listed
lines_in (Ok facts) = facts
lines_in (Err line) = []

-- what a command states before others: an `axiom` its formula, a `lemma` too where the others close
-- its goal, and `load` the lines of the blob
abbrev pub stated_before : List Shape → Option (List ℕ) → Shape → List Listed
stated_before later blob (shape.Axiom name quoted) = stated_fact name.text (formula_in quoted.text)
stated_before later blob (shape.Lemma name quoted) =
    if are_closed 1 later then stated_fact name.text (formula_in quoted.text) else []
stated_before later blob (shape.Load name) =
    option_map_or (λ text. lines_in (listed_facts text)) blob []
stated_before later blob other = []

-- the facts that commands state: where they end within the proof of a lemma, that is none yet
abbrev pub facts_stated : List (Setting State) → List Listed
facts_stated [] = []
facts_stated (s ∷ later) =
    option_map_or (stated_before (filter_map shape_in later) s.blob) (shape_in s) []
    ++ facts_stated later
