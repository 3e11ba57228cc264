-- Levels have one print and no other.
use Rattle.std.proofs.Common.{◌≡◌, ℕ, List, [], ◌∷◌, ◌++◌, codes, refl, sym, ◌∙◌, ap, subst}
use Rattle.nj_formula.specs.declared.formula.Formula.{Formula}
use Rattle.nj_formula.specs.Meaning.{meaning}
use Rattle.nj_syntax.specs.Prints.{Prints}
use Rattle.nj_syntax.specs.Primed.{IsPrimed}
use Rattle.nj_syntax.proofs.KnownPrints.{some_print, one_print, some_primed, one_primed}
use Rattle.proof_state.specs.declared.subgoal.Subgoal.{Subgoal}
use Rattle.proof_state.specs.declared.subgoal.Subgoal.TheVariants.{Show, AssumeShow, FixShow}
use Rattle.proof_state.specs.declared.levels.Levels.{Levels}
use Rattle.proof_state.specs.declared.levels.Levels.TheVariants.{Closed, Prove, State}
use Rattle.proof_state.specs.Describes.{Then, Word, SaysFormula, SaysAssumed, SaysFixed, SaysSubgoal, SaysSubgoals, Describes}

-- one text of which P holds, and no other
abbrev pub One : (List ℕ → Type 0) → Type 0
One P = (text : List ℕ) × P text × ((other : List ℕ) → P other → text ≡ other)

one_word : (word : List ℕ) → One (Word word)
one_word word = (word, refl, λ other is. sym is)

one_then : (P Q : List ℕ → Type 0) → One P → One Q → One (Then P Q)
one_then P Q p q = (
  p.0 ++ q.0,
  (p.0, q.0, refl, p.1, q.1),
  λ other is. ap (λ t. t ++ q.0) (p.2 is.0 is.3) ∙ (ap (λ t. is.0 ++ t) (q.2 is.1 is.4) ∙ sym is.2),
)

one_formula : (f : Formula) → One (SaysFormula f)
one_formula f = let text = some_print [] f in (text.0, text.1, λ other is. one_print [] f text.0 other text.1 is)

one_assumed : (a c : Formula) → One (SaysAssumed a c)
one_assumed a c =
    one_then _ _ (one_word (codes "assume "))
    (one_then _ _ (one_formula a) (one_then _ _ (one_word (codes " show ")) (one_formula c)))

one_fixed : (x : List ℕ) (p : Formula) → One (SaysFixed x p)
one_fixed x p = (
  codes "fix " ++ (name.0 ++ (codes " show " ++ body.0)),
  (name.0, body.0, name.1, body.1, refl),
  λ other is. go other is.0 is.1 is.2 is.3 is.4,
)
  where
    name : (y : List ℕ) × IsPrimed [] x (meaning p) y
    name = some_primed [] x (meaning p)

    body : (text : List ℕ) × Prints 10 (name.0 ∷ []) p text
    body = some_print (name.0 ∷ []) p

    go : (other y text : List ℕ) → IsPrimed [] x (meaning p) y → Prints 10 (y ∷ []) p text → other ≡ codes "fix " ++ (y ++ (codes " show " ++ text))
        → codes "fix " ++ (name.0 ++ (codes " show " ++ body.0)) ≡ other
    go other y text primed prints is =
        let same : y ≡ name.0 = one_primed [] x (meaning p) y name.0 primed name.1 in
        let bodies : body.0 ≡ text = one_print (name.0 ∷ []) p body.0 text body.1 (subst (λ z. Prints 10 (z ∷ []) p text) same prints) in
        ap (λ z. codes "fix " ++ (z ++ (codes " show " ++ body.0))) (sym same)
        ∙ (ap (λ t. codes "fix " ++ (y ++ (codes " show " ++ t))) bodies ∙ sym is)

one_subgoal : (subgoal : Subgoal) → One (SaysSubgoal subgoal)
one_subgoal (Show c) = one_formula c
one_subgoal (AssumeShow a c) = one_assumed a c
one_subgoal (FixShow x p) = one_fixed x p

one_list : (subgoals : List Subgoal) → One (SaysSubgoals subgoals)
one_list [] = ([], refl, λ other is. sym is)
one_list (subgoal ∷ more) =
    one_then _ _ (one_word (10 ∷ codes "subgoal: ")) (one_then _ _ (one_subgoal subgoal) (one_list more))

pub one_description : (levels : Levels) → One (Describes levels)
one_description Closed = ([], refl, λ other is. sym is)
one_description (Prove goal around) = one_then _ _ (one_word (codes "prove: ")) (one_formula goal)
one_description (State block around) =
    one_then _ _ (one_word (codes "state: ")) (one_then _ _ (one_formula block.goal) (one_list block.pending))
