-- How often the check behind a command that forks asks whether to stop (this project's own).
use Rattle.std.specs.Prelude.{ℕ, List, drop, Result, Ok, Err}
use Rattle.nj_formula.specs.declared.formula.Formula.{Formula}
use Rattle.theory_ctx.specs.Locals.{Scoped}
use Rattle.outer_syntax.specs.declared.token.Token.{Token}
use Rattle.proof_state.specs.declared.levels.Levels.TheVariants.{Prove}
use Rattle.proof_terms.specs.declared.fault.TermFault.{TermFault}
use Rattle.proof_terms.specs.declared.term.Term.{Term}
use Rattle.proof_terms.specs.Marks.{marks}
use Rattle.proof_terms.specs.Reading.{proof_of}
use Rattle.proof_checks.specs.Questions.{rules_judged}
use Rattle.doc_nodes.specs.Needs.{source_tokens}
use Rattle.language.specs.Questions.{Questions}
use Rattle.isar_rules.specs.declared.state.Place.{Place}
use Rattle.isar_rules.specs.declared.state.Place.TheVariants as place
use Rattle.isar_rules.specs.declared.state.State.{State}
use Rattle.isar_rules.specs.Forks.{scope_at}
use Rattle.isar_rules.specs.Steps.{aliases_at}

-- of a term once before each rule that is judged; words that are no term are never checked
abbrev pub questions_of : Formula → Scoped → Result Term TermFault → ℕ
questions_of goal scope (Ok t) = rules_judged t goal scope
questions_of goal scope (Err fault) = 0

-- of the tokens behind `by`, as a proof of the open goal
abbrev pub questions_at : List ℕ → List Token → Place → ℕ
questions_at source tokens (place.Proof theory name start (Prove goal around)) =
    questions_of goal (scope_at theory (Prove goal around))
    (proof_of (marks source (drop 1 tokens)))
questions_at source tokens _ = 0

-- of a command, by the state before it
abbrev pub fork_questions : List ℕ → State → ℕ
fork_questions source before = questions_at source
    (source_tokens (aliases_at before.place before.aliases) source) before.place

-- of the command language: only a fork asks
abbrev pub isar_questions : Questions State
isar_questions = record { step = λ source blob before. 0; fork = fork_questions }
