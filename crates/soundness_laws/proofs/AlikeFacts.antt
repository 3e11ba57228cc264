-- A name that is cited has the same answer where the local facts and the goals say the same.
use Rattle.std.proofs.Common.{◌≡◌, ℕ, Bool, true, false, cond, List, [], ◌∷◌, find, bytes_eq, Option, Some, Ok, Err, refl, ap, ◌∙◌}
use Rattle.nj_formula.specs.declared.formula.Formula.{Formula}
use Rattle.nj_formula.specs.Meaning.{meaning}
use Rattle.theory_ctx.specs.Answers.{Answer, found, unknown, ambiguous}
use Rattle.theory_ctx.specs.declared.local.Local.{Local}
use Rattle.theory_ctx.specs.Locals.{Scoped, local_of, local_first, looked_in}
use Rattle.theory_ctx.specs.Looked.{name_parts, looked}
use Rattle.proof_terms.specs.declared.fault.TermFault.TheVariants.{ProvesAnother}
use Rattle.proof_checks.specs.Checks.{cited}
use Rattle.proof_checks.specs.Statements.{is_same}
use Rattle.soundness_laws.specs.Alike.{SayAlike}

module _ (name : List ℕ) (goal other : Formula) (same : meaning goal ≡ meaning other) where
  answered : (answer : Answer) → cited name goal answer ≡ cited name other answer
  answered (found theory fact formula) = ap (λ m. cond (is_same (meaning formula) m) (Ok (meaning formula ∷ [])) (Err (ProvesAnother name))) same
  answered unknown = refl
  answered (ambiguous one more) = refl

  module _ (answer : Answer) (x : List ℕ) where
    abbrev first_of : List Local → Option Local
    first_of locals = find (λ local. bytes_eq local.name x) locals

    first_cited : (ones others : List Local) → SayAlike ones others → cited name goal (local_first (first_of ones) answer) ≡ cited name other (local_first (first_of others) answer)
    first_cited [] [] alike = answered answer
    first_cited [] (l ∷ ls) alike = absurd alike
    first_cited (l ∷ ls) [] alike = absurd alike
    first_cited (l ∷ ls) (m ∷ ms) alike =
        go (first_cited ls ms alike.2) (bytes_eq l.name x)
        ∙ ap (λ y. cited name other (local_first (cond (bytes_eq y x) (Some m) (first_of ms)) answer)) alike.0
      where
        go : cited name goal (local_first (first_of ls) answer) ≡ cited name other (local_first (first_of ms) answer)
            → (b : Bool) → cited name goal (local_first (cond b (Some l) (first_of ls)) answer) ≡ cited name other (local_first (cond b (Some m) (first_of ms)) answer)
        go later true = λ i. cond (is_same (alike.1 i) (same i)) (Ok (alike.1 i ∷ [])) (Err (ProvesAnother name))
        go later false = later

  of_parts : (answer : Answer) (parts : List (List ℕ)) (ones others : List Local) → SayAlike ones others
      → cited name goal (local_first (local_of ones parts) answer) ≡ cited name other (local_first (local_of others parts) answer)
  of_parts answer [] ones others alike = answered answer
  of_parts answer (x ∷ []) ones others alike = first_cited answer x ones others alike
  of_parts answer (x ∷ y ∷ parts) ones others alike = answered answer

  pub cited_alike : (scope : Scoped) (locals : List Local) → SayAlike scope.locals locals → cited name goal (looked_in scope name) ≡ cited name other (looked_in (record scope { locals = locals }) name)
  cited_alike scope locals alike = of_parts (looked scope.facts scope.theory name)
      (name_parts name) scope.locals locals alike
