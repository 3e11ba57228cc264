-- What is reported of the proof behind a command that forks (forked proofs as in Wenzel, ITP 2014).
use Rattle.std.specs.Prelude.{ℕ, List, [], ◌∷◌, drop, Result, Ok, Err}
use Rattle.nj_formula.specs.declared.formula.Formula.{Formula}
use Rattle.nj_formula.specs.Statement.{Statement}
use Rattle.theory_ctx.specs.Locals.{Scoped}
use Rattle.outer_syntax.specs.declared.token.Token.{Token}
use Rattle.proof_state.specs.declared.levels.Levels.{Levels}
use Rattle.proof_state.specs.declared.levels.Levels.TheVariants.{Prove}
use Rattle.proof_state.specs.Locals.{locals_of}
use Rattle.proof_terms.specs.declared.fault.TermFault.{TermFault}
use Rattle.proof_terms.specs.declared.term.Term.{Term}
use Rattle.proof_terms.specs.Marks.{marks}
use Rattle.proof_terms.specs.Reading.{proof_of}
use Rattle.proof_terms.specs.Texts.{fault_text}
use Rattle.suggest_rules.specs.proof_checks_below.Checks.{checked}
use Rattle.report_markup.specs.declared.kind.ReportKind.TheVariants as kind
use Rattle.report_markup.specs.declared.report.Report.{Report}
use Rattle.report_markup.specs.Sorting.{ordered_reports}
use Rattle.doc_nodes.specs.Needs.{source_tokens}
use Rattle.isar_rules.specs.declared.state.Theory.{Theory}
use Rattle.isar_rules.specs.declared.state.Place.{Place}
use Rattle.isar_rules.specs.declared.state.Place.TheVariants as place
use Rattle.isar_rules.specs.declared.state.State.{State}
use Rattle.isar_rules.specs.Cites.{refs}
use Rattle.isar_rules.specs.Reports.{report, error_report, whole}
use Rattle.isar_rules.specs.Steps.{aliases_at}

-- what a proof at these levels may cite
abbrev pub scope_at : Theory → Levels → Scoped
scope_at theory levels =
    record { locals = locals_of levels; theory = theory.name; facts = theory.facts }

-- a proof that was checked, with the names that it cites; or its first fault
abbrev pub verdict : List ℕ → List Report → Result (List Statement) TermFault → List Report
verdict source cites (Ok assumed) = ordered_reports
    (report kind.Proved (whole source) [] [] ∷ cites)
verdict source cites (Err fault) = error_report source (fault_text fault) ∷ []

-- a term against its goal; or the first fault of its words
abbrev pub judged_reports : List ℕ → Formula → Scoped → Result Term TermFault → List Report
judged_reports source goal scope (Ok t) = verdict source (refs scope t) (checked t goal scope)
judged_reports source goal scope (Err fault) = error_report source (fault_text fault) ∷ []

-- the tokens behind `by`, as a proof of the open goal
abbrev pub forked_at : List ℕ → List Token → Place → List Report
forked_at source tokens (place.Proof theory name start (Prove goal around)) =
    judged_reports source goal (scope_at theory (Prove goal around))
    (proof_of (marks source (drop 1 tokens)))
forked_at source tokens _ = []

-- what is reported of a command that forks, by the state before it
abbrev pub fork : List ℕ → State → List Report
fork source before = forked_at source
    (source_tokens (aliases_at before.place before.aliases) source) before.place
