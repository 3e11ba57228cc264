-- A suggested proof is a command without an error that proves its goal.
use Rattle.std.proofs.Common.{◌≡◌, ℕ, List, [], ◌∷◌, ◌++◌, map, codes, Option, Some, None, Ok, Err, IsOk, refl, ap, ◌∙◌}
use Rattle.std.specs.List.{AllByRecursion}
use Rattle.std.specs.Option.{option_map_or, option_and_then}
use Rattle.shared_map.specs.Pairs.{found}
use Rattle.nj_formula.specs.declared.formula.Formula.{Formula}
use Rattle.nj_syntax.specs.Readable.{IsReadable}
use Rattle.theory_ctx.specs.Locals.{Scoped}
use Rattle.outer_syntax.specs.declared.token.Token.{Token}
use Rattle.proof_state.specs.declared.frame.Frame.{Frame}
use Rattle.proof_state.specs.declared.levels.Levels.TheVariants as levels
use Rattle.proof_state.specs.Steps.{closed_levels}
use Rattle.proof_terms.specs.declared.term.Term.{Term}
use Rattle.proof_checks.specs.Checks.{Found, checked}
use Rattle.suggest_rules.specs.Search.{suggested}
use Rattle.suggest_rules.specs.TermText.{term_text, by_text}
use Rattle.report_markup.specs.declared.kind.ReportKind.TheVariants as kind
use Rattle.report_markup.specs.declared.report.Report.{Report}
use Rattle.doc_nodes.specs.Names.{in_order}
use Rattle.doc_nodes.specs.Needs.{AliasList}
use Rattle.language.specs.declared.made.Made.{Made}
use Rattle.isar_rules.specs.declared.shape.Shape.TheVariants as shape
use Rattle.isar_rules.specs.declared.state.Theory.{Theory}
use Rattle.isar_rules.specs.declared.state.Place.{Place}
use Rattle.isar_rules.specs.declared.state.Place.TheVariants as place
use Rattle.isar_rules.specs.declared.state.State.{State}
use Rattle.isar_rules.specs.Cites.{refs}
use Rattle.isar_rules.specs.Effects.{forking}
use Rattle.isar_rules.specs.Forks.{scope_at, verdict, judged_reports, forked_at, fork}
use Rattle.isar_rules.specs.Kept.{errors_in}
use Rattle.isar_rules.specs.Proofs.{stands}
use Rattle.isar_rules.specs.Reports.{report, whole}
use Rattle.isar_rules.specs.Shapes.{shape_by, shape_of}
use Rattle.isar_rules.specs.Shown.{suggested_at}
use Rattle.isar_rules.specs.Steps.{tried, made_effect, step}
use Rattle.isar_rules.specs.Verbs.{verb_of}
use Rattle.isar_rules.proofs.KnownQuiet.{IsQuiet, no_errors, sorted}
use Rattle.soundness_laws.specs.Citable.{IsCitable}
use Rattle.soundness_laws.specs.ProofTexts.{by_token, IsProofText}
use Rattle.soundness_laws.specs.CitableStates.{CitablePlace, alias_names, IsCitableState}
use Rattle.soundness_laws.specs.Proving.{IsProvedBy}
use Rattle.soundness_laws.proofs.OpenGoals.{around_citable}
use Rattle.soundness_laws.proofs.QuietReports.{refs_quiet}

-- what is known of texts of suggested proofs
abbrev ProofLaw : Type 0
ProofLaw = (goal : Formula) (scope : Scoped) (aliases : List (List ℕ)) (t : Term) → IsReadable goal → AllByRecursion (IsCitable aliases) scope.locals
    → suggested goal scope.locals aliases ≡ Some t → IsProofText aliases goal scope (by_text t)

-- a term that is right is told without an error
told : (source : List ℕ) (cites : List Report) → AllByRecursion IsQuiet cites → (r : Found) → IsOk r → errors_in (verdict source cites r) ≡ []
told source cites quiet (Ok assumed) ok = no_errors _ (sorted IsQuiet (report kind.Proved (whole source) [] [] ∷ cites) (refl, quiet))
told source cites quiet (Err fault) ok = absurd (cc (ok))

module _ (theory : Theory) (name : List ℕ) (start goal : Formula) (around : List Frame) (aliases : AliasList) (unnamed : found in_order (codes "by") aliases ≡ None)
    (front : List ℕ) where
  abbrev text : List ℕ
  text = codes "by " ++ front

  abbrev before : State
  before = record { place = place.Proof theory name start (levels.Prove goal around); aliases = aliases }

  abbrev names : List (List ℕ)
  names = map (λ pair. pair.0) aliases

  abbrev scope : Scoped
  scope = scope_at theory (levels.Prove goal around)

  by_is : (more : List Token) → shape_of aliases text (by_token ∷ more) ≡ Some shape.By
  by_is more = ap (λ o. option_and_then (shape_by aliases text (by_token ∷ more)) (verb_of (option_map_or (λ target. target) o (codes "by")))) unnamed

  module _ (proof : IsProofText names goal scope text) (blob : Option (List ℕ)) where
    abbrev made : Made State
    made = made_effect text (by_token ∷ proof.more) before
        (Ok (forking (stands theory name start (closed_levels goal around))))

    made_is : step text blob before ≡ made
    made_is =
        ap (λ ts. made_effect text ts before (tried blob before.place (shape_of aliases text ts)))
        proof.tokens
        ∙ ap (λ s. made_effect text (by_token ∷ proof.more) before (tried blob before.place s))
        (by_is proof.more)

    forked_is : errors_in (fork text before) ≡ []
    forked_is =
        ap (λ ts. errors_in (forked_at text ts before.place)) proof.tokens
        ∙ (ap (λ r. errors_in (judged_reports text goal scope r)) proof.read
        ∙ told text (refs scope proof.term) (refs_quiet scope proof.term) (checked proof.term goal scope) proof.proves)

    is_proved : IsProvedBy before text blob
    is_proved = record { quiet = ap (λ m. errors_in m.reports) made_is; forks = ap (λ m. m.forks) made_is; proved = forked_is }

pub proved_by : ProofLaw → (state : State) (blob : Option (List ℕ)) (t : Term) → IsCitableState state → found in_order (codes "by") state.aliases ≡ None
    → suggested_at (alias_names state) state.place ≡ Some t → IsProvedBy state (by_text t) blob
proved_by law state blob t citable unnamed e = go state.place state.aliases citable unnamed e
  where
    go : (p : Place) (aliases : AliasList) → CitablePlace (map (λ pair. pair.0) aliases) p → found in_order (codes "by") aliases ≡ None
        → suggested_at (map (λ pair. pair.0) aliases) p ≡ Some t → IsProvedBy (record { place = p; aliases = aliases }) (by_text t) blob
    go (place.Proof theory name start (levels.Prove goal around)) aliases citable unnamed e =
        let names : List (List ℕ) = map (λ pair. pair.0) aliases in
        is_proved theory name start goal around aliases unnamed (term_text t)
        (law goal (scope_at theory (levels.Prove goal around)) names t citable.0 (around_citable names around citable.1) e) blob
    go (place.Proof theory name start levels.Closed) aliases citable unnamed e = cc
    go (place.Proof theory name start (levels.State block around)) aliases citable unnamed e = cc
    go (place.Start node given keyword) aliases citable unnamed e = cc
    go place.Outside aliases citable unnamed e = cc
    go (place.Theory theory) aliases citable unnamed e = cc
    go (place.End theory) aliases citable unnamed e = cc
