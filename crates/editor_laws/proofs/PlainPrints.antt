-- What is reported behind a command by its print is plain.
use Rattle.std.proofs.Common.{ℕ, List, [], ◌∷◌, codes, map, Option, Some, None, IfSome}
use Rattle.std.proofs.Common.{refl}
use Rattle.std.specs.List.{AllByRecursion}
use Rattle.proof_state.specs.declared.levels.Levels.{Levels}
use Rattle.proof_state.specs.declared.levels.Levels.TheVariants.{Closed, Prove, State}
use Rattle.proof_state.specs.declared.subgoal.Subgoal.{Subgoal}
use Rattle.proof_state.specs.Locals.{around_locals}
use Rattle.proof_terms.specs.declared.term.Term.{Term}
use Rattle.suggest_rules.specs.TermText.{by_text}
use Rattle.isar_rules.specs.declared.state.Place.{Place}
use Rattle.isar_rules.specs.declared.state.Place.TheVariants as place
use Rattle.isar_rules.specs.declared.state.State as states
use Rattle.isar_rules.specs.Described.{subgoal_lines, levels_text}
use Rattle.isar_rules.specs.Shown.{place_text, suggested_at, suggestion, print}
use Rattle.editor_laws.proofs.PlainTexts.{Plain, spelled, joined, after, with_first}
use Rattle.editor_laws.proofs.FormulaTexts.{IsSaid, formula_plain, subgoal_plain}
use Rattle.editor_laws.proofs.PlainStates.{LevelsPlain}
use Rattle.editor_laws.proofs.PlainStates.{PlacePlain}
use Rattle.editor_laws.proofs.SuggestedTexts.{suggested_plain}
use Rattle.editor_laws.proofs.PlainForks.{AllReports, around_said}

lines_plain : (subgoals : List Subgoal) → AllByRecursion IsSaid subgoals
    → Plain (subgoal_lines subgoals)
lines_plain [] all = spelled refl
lines_plain (s ∷ subgoals) all =
    joined (with_first refl (after (codes "subgoal: ") refl (subgoal_plain s all.0)))
    (lines_plain subgoals all.1)

levels_plain : (levels : Levels) → LevelsPlain levels → Plain (levels_text levels)
levels_plain Closed plain = spelled refl
levels_plain (Prove goal around) plain = after (codes "prove: ") refl (formula_plain goal plain.0)
levels_plain (State block around) plain =
    after (codes "state: ") refl
    (joined (formula_plain block.goal plain.0.0) (lines_plain block.pending plain.0.1))

place_plain : (p : Place) → PlacePlain p → Plain (place_text p)
place_plain (place.Start node given keyword) plain = spelled refl
place_plain place.Outside plain = spelled refl
place_plain (place.Theory theory) plain = after (codes "theory ") refl plain.0
place_plain (place.Proof theory name goal levels) plain = levels_plain levels plain.2
place_plain (place.End theory) plain = after (codes "theory ") refl (joined plain.0 (spelled refl))

suggestion_plain : (source : List ℕ) (o : Option Term) → IfSome o (λ t. Plain (by_text t))
    → AllReports (suggestion source o)
suggestion_plain source None plain = tt
suggestion_plain source (Some t) plain = ((tt, plain), tt)

at_plain : (aliases : List (List ℕ)) (p : Place) → PlacePlain p
    → IfSome (suggested_at aliases p) (λ t. Plain (by_text t))
at_plain aliases (place.Proof theory name start (Prove goal around)) plain =
    suggested_plain goal (around_locals around) aliases plain.2.0 (around_said around plain.2.1)
at_plain aliases (place.Proof theory name start Closed) plain = tt
at_plain aliases (place.Proof theory name start (State block around)) plain = tt
at_plain aliases (place.Start node given keyword) plain = tt
at_plain aliases place.Outside plain = tt
at_plain aliases (place.Theory theory) plain = tt
at_plain aliases (place.End theory) plain = tt

pub print_plain : (source : List ℕ) (behind : states.State) → PlacePlain behind.place
    → AllReports (print source behind)
print_plain source behind plain = (
  (tt, place_plain behind.place plain),
  suggestion_plain source _
      (at_plain (map (λ pair. pair.0) behind.aliases) behind.place plain),
)
