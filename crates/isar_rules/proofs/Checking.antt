-- Small proofs and their names, computed.
use Rattle.std.proofs.Common.{◌≡◌, ℕ, suc, if◌then◌else◌, List, [], ◌∷◌, Option, Some, Ok, Err, refl, ap, sym, ◌∙◌}
use Rattle.nj_formula.specs.declared.formula.Formula.{Formula}
use Rattle.nj_formula.specs.declared.formula.Formula.TheVariants.{Implies}
use Rattle.nj_formula.specs.Meaning.{meaning}
use Rattle.nj_formula.specs.Statement.{Statement}
use Rattle.nj_formula.proofs.KnownFormulas.{out-Implies}
use Rattle.theory_ctx.specs.Answers.{found}
use Rattle.theory_ctx.specs.Locals.{Scoped, looked_in}
use Rattle.proof_state.specs.Same.{decide}
use Rattle.proof_terms.specs.declared.fault.TermFault.{TermFault}
use Rattle.proof_terms.specs.declared.fault.TermFault.TheVariants.{ProvesAnother}
use Rattle.proof_terms.specs.declared.term.Cite.{Cite}
use Rattle.proof_terms.specs.declared.term.Term.{Term, out-Term, fold-Term, fold-roll-Term}
use Rattle.proof_terms.specs.declared.term.Term.TheOpen.{Term-F}
use Rattle.proof_terms.specs.declared.term.Term.TheVariants.{Fact, ImpI, rolls-Fact, rolls-ImpI}
use Rattle.proof_terms.proofs.KnownLayers.{out-Fact, out-ImpI}
use Rattle.proof_terms.specs.Reading.{deepest}
use Rattle.suggest_rules.specs.proof_checks_below.Checks.{and_then, cited, by_one, of_step, step_within, checked_within, checked}
use Rattle.suggest_rules.specs.proof_checks_below.Rows.{step_of, imp_i}
use Rattle.suggest_rules.specs.proof_checks_below.Scopes.{inside, remaining}
use Rattle.report_markup.specs.declared.kind.ReportKind.TheVariants as kind
use Rattle.report_markup.specs.declared.report.Report.{Report}
use Rattle.report_markup.specs.Sorting.{ordered_reports}
use Rattle.isar_rules.specs.Reports.{report, error_report, whole}
use Rattle.isar_rules.specs.Cites.{Cited, cited_layer, refs, cited as cites}
use Rattle.isar_rules.specs.Forks.{judged_reports, verdict}
use Rattle.proof_terms.specs.Texts.{fault_text}
use Rattle.proof_state.proofs.KnownFirst.{is_first_of}

abbrev folded : Scoped → Term → Cited
folded scope = fold-Term Cited (cited_layer scope)

pub refs-Fact : (scope : Scoped) (c : Cite) → refs scope (Fact c) ≡ cites scope c []
refs-Fact scope c = ap (λ t. folded scope t []) (sym (rolls-Fact c)) ∙ ap (λ r. r []) (fold-roll-Term Cited (cited_layer scope) (Term-F.Fact c))

-- an assumption of its own, and a name
pub refs-ImpI : (scope : Scoped) (x : List ℕ) (c : Cite) → refs scope (ImpI x (Fact c)) ≡ cites scope c (x ∷ [])
refs-ImpI scope x c =
    ap (λ t. folded scope t []) (sym (rolls-ImpI x (Fact c)))
    ∙ (ap (λ r. r []) (fold-roll-Term Cited (cited_layer scope) (Term-F.ImpI x (Fact c)))
    ∙ (ap (λ t. folded scope t (x ∷ [])) (sym (rolls-Fact c)) ∙ ap (λ r. r (x ∷ [])) (fold-roll-Term Cited (cited_layer scope) (Term-F.Fact c))))

by_layer : (n : ℕ) (t : Term) (layer : Term-F Term) (goal : Formula) (scope : Scoped) → out-Term t ≡ layer
    → checked_within (suc n) t goal scope ≡ and_then (step_of layer goal) (of_step (checked_within n) scope goal)
unfolding checked_within step_within
by_layer n t layer goal scope e = ap (λ l. and_then (step_within (suc n) l goal) (of_step (checked_within n) scope goal)) e

within-Fact : (n : ℕ) (c : Cite) (goal : Formula) (scope : Scoped) → checked_within (suc n) (Fact c) goal scope ≡ cited c.name goal (looked_in scope c.name)
unfolding step_of of_step
within-Fact n c goal scope = by_layer n (Fact c) (Term-F.Fact c) goal scope (out-Fact c)

pub checked-Fact : (c : Cite) (goal : Formula) (scope : Scoped) → checked (Fact c) goal scope ≡ cited c.name goal (looked_in scope c.name)
unfolding deepest
checked-Fact c goal scope = within-Fact 199 c goal scope

-- a fact that says the goal
pub found_so : (name : List ℕ) (theory : Option (List ℕ)) (fact : List ℕ) (f : Formula) → cited name f (found theory fact f) ≡ Ok (meaning f ∷ [])
found_so name theory fact f =
    ap (λ b. if b then Ok (meaning f ∷ []) else Err (ProvesAnother name)) (is_first_of (decide (meaning f) (meaning f)) refl)

-- an implication of a formula by itself
pub checked-ImpI : (x : List ℕ) (c : Cite) (f : Formula) (scope : Scoped)
    → cited c.name f (looked_in (inside (Some (record { name = x; formula = f })) scope) c.name) ≡ Ok (meaning f ∷ [])
    → checked (ImpI x (Fact c)) (Implies f f) scope ≡ Ok (remaining (Some (record { name = x; formula = f })) (meaning f ∷ []))
unfolding deepest step_of of_step by_one
checked-ImpI x c f scope is =
    by_layer 199 (ImpI x (Fact c)) (Term-F.ImpI x (Fact c)) (Implies f f) scope (out-ImpI x (Fact c))
    ∙ (ap (λ l. and_then (imp_i x (Fact c) l) (of_step (checked_within 199) scope (Implies f f))) (out-Implies f f)
    ∙ ap (λ s. and_then (and_then s (λ u. Ok (remaining (Some (record { name = x; formula = f })) u))) (λ u. Ok u))
    (within-Fact 198 c f (inside (Some (record { name = x; formula = f })) scope) ∙ is))

module _ (source : List ℕ) (goal : Formula) (scope : Scoped) (t : Term) where
  pub judged_well : (s : List Statement) (r : List Report) → checked t goal scope ≡ Ok s → refs scope t ≡ r
      → judged_reports source goal scope (Ok t) ≡ ordered_reports
      (report kind.Proved (whole source) [] [] ∷ r)
  judged_well s r e is = ap (verdict source (refs scope t)) e ∙ ap (λ r. ordered_reports (report kind.Proved (whole source) [] [] ∷ r)) is

  pub judged_ill : (fault : TermFault) → checked t goal scope ≡ Err fault → judged_reports source goal scope (Ok t) ≡ error_report source (fault_text fault) ∷ []
  judged_ill fault e = ap (verdict source (refs scope t)) e
