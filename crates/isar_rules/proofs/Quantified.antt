-- The text of quantifiers over an atom of what they bind.
use Rattle.std.proofs.Common.{◌≡◌, ℕ, ◌+◌, ◌||◌, false, if◌then◌else◌, List, [], ◌∷◌, ◌++◌, sum, codes, ap, ◌∙◌}
use Rattle.nj_formula.specs.declared.argument.Argument.TheVariants.{Bound}
use Rattle.nj_formula.specs.declared.formula.Formula.TheOpen.{Formula-F}
use Rattle.nj_formula.specs.declared.formula.Formula.TheVariants.{Atom, All, Exists}
use Rattle.nj_formula.specs.Statement.{atom}
use Rattle.nj_formula.proofs.KnownArguments.{fold-Bound}
use Rattle.nj_syntax.specs.declared.operator.Quantifier.{Quantifier}
use Rattle.nj_syntax.specs.Grammar.{word}
use Rattle.nj_syntax.specs.ArgumentText.{listed, text_layer}
use Rattle.nj_syntax.specs.Primed.{shown_layer, is_shown, with_primes}
use Rattle.nj_syntax.specs.Printed.{spoken_layer, longest_layer, least_failing, primed, enclosed, binding, quantifier_text, formula_text}
use Rattle.isar_rules.specs.WorkedTheories.{quantified}
use Rattle.nj_syntax.proofs.KnownSpoken.{says_implies, says_all, says_exists}

primed_bound : (x p : List ℕ) → primed [] x (atom p (Bound 0 ∷ [])) ≡ with_primes x 0
primed_bound x p =
    ap (λ l. with_primes x (least_failing (λ k. is_shown (with_primes x k) [] 1 (atom p (Bound 0 ∷ []))) 0 (sum (l ∷ []) + 1))) (fold-Bound (longest_layer []) 0)
    ∙ ap (λ b. with_primes x (if (b || false) then 1 else 0)) (fold-Bound (shown_layer (with_primes x 0) [] 1) 0)

-- the text with the printed name y
abbrev bound_text : Quantifier → List ℕ → List ℕ → ℕ → List ℕ
bound_text q y p place =
    enclosed 10 place (word q ++ (codes " " ++ (y ++ (codes ". " ++ (p ++ (codes "(" ++ (listed (y ∷ []) ++ codes ")")))))))

binding_text : (q : Quantifier) (y p : List ℕ) (place : ℕ) → binding q y (spoken_layer (Formula-F.Atom p (Bound 0 ∷ []))) place [] ≡ bound_text q y p place
binding_text q y p place =
    ap (λ a. enclosed 10 place (word q ++ (codes " " ++ (y ++ (codes ". " ++ (p ++ (codes "(" ++ (listed (a ∷ []) ++ codes ")"))))))))
    (fold-Bound (text_layer (y ∷ [])) 0)

quantifier_so : (q : Quantifier) (x p : List ℕ) (place : ℕ)
    → quantifier_text q x (spoken_layer (Formula-F.Atom p (Bound 0 ∷ []))) place [] ≡ bound_text q (with_primes x 0) p place
quantifier_so q x p place =
    ap (λ y. binding q y (spoken_layer (Formula-F.Atom p (Bound 0 ∷ []))) place []) (primed_bound x p)
    ∙ binding_text q (with_primes x 0) p place

pub quantified_text : formula_text quantified ≡ codes "(ALL x. P(x)) --> (EX y. P(y))"
quantified_text =
    says_implies 10 [] (All (codes "x") (Atom (codes "P") (Bound 0 ∷ []))) (Exists (codes "y") (Atom (codes "P") (Bound 0 ∷ []))) _ _
    (says_all 26 [] (codes "x") (codes "P") (Bound 0 ∷ []) ∙ quantifier_so Quantifier.All (codes "x") (codes "P") 26)
    (says_exists 25 [] (codes "y") (codes "P") (Bound 0 ∷ []) ∙ quantifier_so Quantifier.Exists (codes "y") (codes "P") 25)
