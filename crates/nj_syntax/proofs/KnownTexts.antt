-- Each print of a formula is its text.
use Rattle.std.proofs.Common.{◌≡◌, ◌≤◌, ◌+◌, ℕ, nat_lt, true, List, [], ◌∷◌, ◌++◌, codes, ap, sym, subst, ◌∙◌, lit≤}
use Rattle.std.proofs.lemmas.Bool.{both_ways}
use Rattle.nj_formula.specs.declared.formula.Formula.{Formula}
use Rattle.nj_formula.specs.declared.formula.Formula.TheVariants.{And, Or, Implies, All, Exists}
use Rattle.nj_formula.specs.Meaning.{meaning}
use Rattle.nj_formula.proofs.KnownFormulas.{fold-False, fold-Atom, fold-Not, fold-And, fold-Or, fold-Implies, fold-All, fold-Exists, formula_by_forms}
use Rattle.nj_syntax.specs.declared.operator.Operator.{Operator}
use Rattle.nj_syntax.specs.declared.operator.Quantifier.{Quantifier}
use Rattle.nj_syntax.specs.Grammar.{priority, word}
use Rattle.nj_syntax.specs.Prints.{operator_text, enclosed_layer, is_enclosed, Prints, falsity, atom, predicate, negation, operator, quantifier, parentheses}
use Rattle.nj_syntax.specs.Printed.{primed, enclosed, formula_text, text_in}
use Rattle.nj_syntax.proofs.KnownPrimed.{primed_is}
use Rattle.nj_syntax.proofs.SpokenLemmas.{says_meaning, text-False, text-Atom, text-Not, text-joined, text-quantified, bare, in_parentheses}
use Rattle.nj_syntax.proofs.KnownPrints.{some_print}

-- a text of its own in two places, in parentheses in the first
twice : (own place : ℕ) (text there here : List ℕ) → there ≡ enclosed own place text → here ≡ enclosed own 10 text → 10 ≤ own
    → nat_lt own place ≡ true → there ≡ codes "(" ++ (here ++ codes ")")
twice own place text there here placed alone strong over =
    placed ∙ (in_parentheses own place text over ∙ ap (λ t. codes "(" ++ (t ++ codes ")")) (sym (alone ∙ bare own 10 text strong)))

module _ (p : ℕ) (names : List (List ℕ)) where
  Encloses : Formula → Type 0
  Encloses a = is_enclosed p a ≡ true → text_in p names a ≡ codes "(" ++ (text_in 10 names a ++ codes ")")

  -- what is enclosed in a place is its text by itself, in parentheses
  enclosed_text : (a : Formula) → is_enclosed p a ≡ true → text_in p names a ≡ codes "(" ++ (text_in 10 names a ++ codes ")")
  unfolding Encloses
  enclosed_text =
      formula_by_forms Encloses
      (λ over. absurd (both_ways _ (fold-False (enclosed_layer p)) over))
      (λ x args over. absurd (both_ways _ (fold-Atom (enclosed_layer p) x args) over))
      (λ a _ over. twice 40 p _ _ _ (text-Not p names a) (text-Not 10 names a) (lit≤ tt) (sym (fold-Not (enclosed_layer p) a) ∙ over))
      (λ a b _ _ over. twice 35 p _ _ _ (text-joined p names Operator.And a b) (text-joined 10 names Operator.And a b) (lit≤ tt) (sym (fold-And (enclosed_layer p) a b) ∙ over))
      (λ a b _ _ over. twice 30 p _ _ _ (text-joined p names Operator.Or a b) (text-joined 10 names Operator.Or a b) (lit≤ tt) (sym (fold-Or (enclosed_layer p) a b) ∙ over))
      (λ a b _ _ over. twice 25 p _ _ _ (text-joined p names Operator.Implies a b) (text-joined 10 names Operator.Implies a b) (lit≤ tt) (sym (fold-Implies (enclosed_layer p) a b) ∙ over))
      (λ x a _ over. twice 10 p _ _ _ (text-quantified p names Quantifier.All x a) (text-quantified 10 names Quantifier.All x a) (lit≤ tt) (sym (fold-All (enclosed_layer p) x a) ∙ over))
      (λ x a _ over. twice 10 p _ _ _ (text-quantified p names Quantifier.Exists x a) (text-quantified 10 names Quantifier.Exists x a) (lit≤ tt) (sym (fold-Exists (enclosed_layer p) x a) ∙ over))

-- a print is the text
pub text_is : {p : ℕ} {names : List (List ℕ)} {f : Formula} {text : List ℕ} → Prints p names f text → text ≡ text_in p names f
text_is {p} {names} falsity = sym (text-False p names)
text_is {p} {names} (atom {x = x}) = sym (text-Atom p names x [])
text_is {p} {names} (predicate {x = x} {t = t} {more = more}) = sym (text-Atom p names x (t ∷ more))
text_is {p} {names} (negation {a = a} low h) =
    ap (λ t. codes "~" ++ t) (text_is h) ∙ (sym (bare 40 p _ low) ∙ sym (text-Not p names a))
text_is {p} {names} (operator {a = a} {b = b} {left = left} {right = right} op low h k) =
    ap (λ t. t ++ (operator_text op ++ right)) (text_is h)
    ∙ (ap (λ t. text_in (priority op + 1) names a ++ (operator_text op ++ t)) (text_is k)
    ∙ (sym (bare (priority op) p _ low) ∙ sym (text-joined p names op a b)))
text_is {p} {names} (quantifier {x = x} {y = y} {a = a} {text = text} q low is h) =
    ap (λ t. word q ++ (codes " " ++ (y ++ (codes ". " ++ t)))) (text_is h)
    ∙ (ap (λ z. word q ++ (codes " " ++ (z ++ (codes ". " ++ text_in 10 (z ∷ names) a))))
    (primed_is names x (meaning a) y is ∙ ap (primed names x) (sym (says_meaning a)))
    ∙ (sym (bare 10 p _ low) ∙ sym (text-quantified p names q x a)))
text_is {p} {names} (parentheses {a = a} over h) =
    ap (λ t. codes "(" ++ (t ++ codes ")")) (text_is h) ∙ sym (enclosed_text p names a over)

-- so the text of a formula is a print of it
pub printed : (a : Formula) → Prints 10 [] a (formula_text a)
printed a = let some = some_print [] a in subst (Prints 10 [] a) (text_is some.1) some.1
