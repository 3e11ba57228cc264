-- What the commands of proofs make, and their errors, the first that holds (the Isar language,
-- Wenzel 1999).
use Rattle.std.specs.Prelude.{ℕ, List, [], ◌∷◌, Option, Some, None, option_map, Result, Ok, Err}
use Rattle.nj_formula.specs.declared.formula.Formula.{Formula}
use Rattle.theory_ctx.specs.Facts.{Fact}
use Rattle.proof_state.specs.declared.levels.Levels.{Levels}
use Rattle.proof_state.specs.declared.levels.Levels.TheVariants.{Closed, Prove, State}
use Rattle.proof_state.specs.declared.fault.ProofFault.{ProofFault}
use Rattle.proof_state.specs.Steps.{Command, step, proof, fix, assume, have, show, next, qed, by}
use Rattle.report_markup.specs.declared.report.Report.{Report}
use Rattle.isar_rules.specs.declared.shape.Shape.{Shape}
use Rattle.isar_rules.specs.declared.shape.Shape.TheVariants as shape
use Rattle.isar_rules.specs.declared.shape.Spot.{Spot}
use Rattle.isar_rules.specs.declared.state.Theory.{Theory}
use Rattle.isar_rules.specs.declared.state.Place.{Place}
use Rattle.isar_rules.specs.declared.state.Place.TheVariants as place
use Rattle.isar_rules.specs.Errors.{Tried, and_then, formula_in, proof_error, not_allowed}
use Rattle.isar_rules.specs.Reports.{local_report, formula_report}
use Rattle.isar_rules.specs.Theories.{with_fact}
use Rattle.isar_rules.specs.Effects.{Effect, makes, forking}

-- a proof command, and what is reported beside its word
abbrev pub Ordered : Type 0
Ordered = Command × List Report

-- a command with a quoted formula and perhaps a name, unless the formula is bad
abbrev pub with_formula : (Formula → Command) → Option Spot → Spot → Tried Ordered
with_formula command name quoted = and_then (formula_in quoted.text)
    (λ f. Ok (command f, formula_report quoted f ∷ local_report name))

-- the name by itself, where there is one
abbrev pub text_of_name : Option Spot → Option (List ℕ)
text_of_name name = option_map (λ n. n.text) name

-- the proof command of a shape, where the mode has it: `proof` and `by` in mode prove, others in
-- mode state
abbrev pub ordered_command : List Fact → Shape → Levels → Tried Ordered
ordered_command facts (shape.Proof dash) (Prove goal around) = Ok (proof dash, [])
ordered_command facts shape.By (Prove goal around) = Ok (by, [])
ordered_command facts (shape.Fix x) (State block around) = Ok
    (fix facts x.text, local_report (Some x))
ordered_command facts (shape.Assume name quoted) (State block around) =
    with_formula (assume (text_of_name name)) name quoted
ordered_command facts (shape.Have name quoted) (State block around) =
    with_formula (have (text_of_name name)) name quoted
ordered_command facts (shape.Show quoted) (State block around) = with_formula show None quoted
ordered_command facts shape.Next (State block around) = Ok (next, [])
ordered_command facts shape.Qed (State block around) = Ok (qed, [])
ordered_command facts _ _ = Err not_allowed

-- the levels after a command, unless it is refused
abbrev pub levels_or : Result Levels ProofFault → Tried Levels
levels_or (Ok levels) = Ok levels
levels_or (Err fault) = Err (proof_error fault)

-- where the levels stand: once the goal of the start is closed, the theory has the lemma
abbrev pub stands : Theory → List ℕ → Formula → Levels → Place
stands theory name goal Closed = place.Theory (with_fact name goal theory)
stands theory name goal levels = place.Proof theory name goal levels

-- `by` alone forks
abbrev pub effect_of : Command → Place → List Report → Effect
effect_of by after reports = forking after
effect_of _ after reports = makes after reports

-- a command in the proof of a lemma
abbrev pub proof_made : Theory → List ℕ → Formula → Levels → Shape → Tried Effect
proof_made theory name goal levels s = and_then (ordered_command theory.facts s levels)
    (λ o. and_then (levels_or (step o.0 levels))
    (λ after. Ok (effect_of o.0 (stands theory name goal after) o.1)))
