-- What describes a proof state is its text.
use Rattle.std.proofs.Common.{◌≡◌, ℕ, List, [], ◌∷◌, ◌++◌, codes, ap, sym, ◌∙◌, append_assoc}
use Rattle.nj_formula.specs.declared.formula.Formula.{Formula}
use Rattle.nj_formula.specs.Meaning.{meaning}
use Rattle.nj_syntax.specs.Prints.{Prints}
use Rattle.proof_state.specs.declared.subgoal.Subgoal.{Subgoal}
use Rattle.proof_state.specs.declared.subgoal.Subgoal.TheVariants.{Show, AssumeShow, FixShow}
use Rattle.proof_state.specs.declared.levels.Levels.{Levels}
use Rattle.proof_state.specs.declared.levels.Levels.TheVariants.{Closed, Prove, State}
use Rattle.proof_state.specs.Describes.{SaysFixed, SaysSubgoal, SaysSubgoals, Describes}
use Rattle.nj_syntax.specs.Printed.{formula_text}
use Rattle.isar_rules.specs.Described.{fix_text, subgoal_text, subgoal_lines, levels_text}
use Rattle.nj_syntax.proofs.KnownPrimed.{primed_is}
use Rattle.nj_syntax.proofs.KnownTexts.{text_is}

fixed_is : (x : List ℕ) (p : Formula) (text : List ℕ) → SaysFixed x p text → text ≡ subgoal_text (FixShow x p)
fixed_is x p text (y, body, named, printed, is) =
    is ∙ (ap (λ t. codes "fix " ++ (y ++ (codes " show " ++ t))) (text_is printed)
    ∙ ap (λ z. fix_text z p) (primed_is [] x (meaning p) y named))

subgoal_is : (subgoal : Subgoal) (text : List ℕ) → SaysSubgoal subgoal text → text ≡ subgoal_text subgoal
subgoal_is (Show c) text says = text_is says
subgoal_is (AssumeShow a c) text says = go says.0 says.1 says.2 says.3 says.4.0 says.4.1 says.4.2 says.4.3 says.4.4.0 says.4.4.1 says.4.4.2 says.4.4.3 says.4.4.4
  where
    go : (one more : List ℕ) → text ≡ one ++ more → one ≡ codes "assume "
        → (first rest : List ℕ) → more ≡ first ++ rest → Prints 10 [] a first
        → (word last : List ℕ) → rest ≡ word ++ last → word ≡ codes " show " → Prints 10 [] c last
        → text ≡ codes "assume " ++ (formula_text a ++ (codes " show " ++ formula_text c))
    go one more is one_is first rest more_is first_is word last rest_is word_is last_is =
        is ∙ (ap (λ t. t ++ more) one_is ∙ ap (λ t. codes "assume " ++ t) (more_is
        ∙ (ap (λ t. t ++ rest) (text_is first_is) ∙ ap (λ t. formula_text a ++ t) (rest_is
        ∙ (ap (λ t. t ++ last) word_is ∙ ap (λ t. codes " show " ++ t) (text_is last_is))))))
subgoal_is (FixShow x p) text says = fixed_is x p text says

-- the lines of subgoals, one after the other
lines_are : (subgoals : List Subgoal) (text : List ℕ) → SaysSubgoals subgoals text → text ≡ subgoal_lines subgoals
lines_are [] text says = says
lines_are (subgoal ∷ others) text says = go says.0 says.1 says.2 says.3 says.4.0 says.4.1 says.4.2 says.4.3 (lines_are others says.4.1 says.4.4)
  where
    go : (one more : List ℕ) → text ≡ one ++ more → one ≡ 10 ∷ codes "subgoal: "
        → (first rest : List ℕ) → more ≡ first ++ rest → SaysSubgoal subgoal first → rest ≡ subgoal_lines others
        → text ≡ (10 ∷ (codes "subgoal: " ++ subgoal_text subgoal)) ++ subgoal_lines others
    go one more is one_is first rest more_is first_is rest_is =
        is ∙ (ap (λ t. t ++ more) one_is ∙ ap (λ t. (10 ∷ codes "subgoal: ") ++ t) (more_is
        ∙ (ap (λ t. t ++ rest) (subgoal_is subgoal first first_is) ∙ ap (λ t. subgoal_text subgoal ++ t) rest_is))
        ∙ sym (append_assoc (10 ∷ codes "subgoal: ") (subgoal_text subgoal) (subgoal_lines others)))

-- what describes levels is their text
pub description_is : (levels : Levels) (text : List ℕ) → Describes levels text → text ≡ levels_text levels
description_is Closed text says = says
description_is (Prove goal around) text says =
    says.2 ∙ (ap (λ t. t ++ says.1) says.3 ∙ ap (λ t. codes "prove: " ++ t) (text_is says.4))
description_is (State block around) text says = go says.0 says.1 says.2 says.3 says.4.0 says.4.1 says.4.2 says.4.3 says.4.4
  where
    go : (one more : List ℕ) → text ≡ one ++ more → one ≡ codes "state: "
        → (first rest : List ℕ) → more ≡ first ++ rest → Prints 10 [] block.goal first → SaysSubgoals block.pending rest
        → text ≡ codes "state: " ++ (formula_text block.goal ++ subgoal_lines block.pending)
    go one more is one_is first rest more_is first_is rest_is =
        is ∙ (ap (λ t. t ++ more) one_is ∙ ap (λ t. codes "state: " ++ t) (more_is
        ∙ (ap (λ t. t ++ rest) (text_is first_is) ∙ ap (λ t. formula_text block.goal ++ t) (lines_are block.pending rest rest_is))))
