-- The commands of each mode of a proof, and what comes of one (this project's own).
use Rattle.std.specs.Prelude.{ℕ, List, [], Some, None, Ok, Err}
use Rattle.nj_formula.specs.declared.formula.Formula.{Formula}
use Rattle.theory_ctx.specs.Facts.{Fact}
use Rattle.proof_state.specs.declared.levels.Levels.{Levels}
use Rattle.proof_state.specs.Steps.{step, proof, fix, assume, have, show, next, qed, by}
use Rattle.isar_rules.specs.declared.shape.Shape.{Shape}
use Rattle.isar_rules.specs.declared.shape.Shape.TheVariants as shape
use Rattle.isar_rules.specs.declared.state.Theory.{Theory}
use Rattle.isar_rules.specs.Errors.{Tried, and_then, not_allowed}
use Rattle.isar_rules.specs.Reports.{local_report}
use Rattle.isar_rules.specs.Proofs.{Ordered, with_formula, text_of_name, levels_or}
use Rattle.isar_rules.specs.Proofs.{stands, effect_of}
use Rattle.isar_rules.specs.Effects.{Effect}

-- the proof command of a shape in mode prove
abbrev pub in_prove : Shape → Tried Ordered
in_prove (shape.Proof dash) = Ok (proof dash, [])
in_prove shape.By = Ok (by, [])
in_prove _ = Err not_allowed

-- in mode state
abbrev pub in_state : List Fact → Shape → Tried Ordered
in_state facts (shape.Fix x) = Ok (fix facts x.text, local_report (Some x))
in_state facts (shape.Assume name quoted) = with_formula (assume (text_of_name name)) name quoted
in_state facts (shape.Have name quoted) = with_formula (have (text_of_name name)) name quoted
in_state facts (shape.Show quoted) = with_formula show None quoted
in_state facts shape.Next = Ok (next, [])
in_state facts shape.Qed = Ok (qed, [])
in_state facts _ = Err not_allowed

-- what comes of a proof command in the proof of a lemma
abbrev pub after_order : Theory → List ℕ → Formula → Levels → Tried Ordered → Tried Effect
after_order theory name goal levels tried = and_then tried
    (λ o. and_then (levels_or (step o.0 levels))
    (λ after. Ok (effect_of o.0 (stands theory name goal after) o.1)))
