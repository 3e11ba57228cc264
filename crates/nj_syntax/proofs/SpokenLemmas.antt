-- What is said and printed of a formula of each form.
use Rattle.std.proofs.Common.{◌≡◌, ◌≤◌, ◌+◌, ℕ, nat_lt, true, List, ◌++◌, codes, ap, sym, ◌∙◌, le-ltb}
use Rattle.std.proofs.lemmas.Bool.{cond-true, cond-false}
use Rattle.nj_formula.specs.declared.argument.Argument.{Argument}
use Rattle.nj_formula.specs.declared.formula.Formula.{Formula, fold-Formula}
use Rattle.nj_formula.specs.declared.formula.Formula.TheVariants.{False, Atom, Not, And, Or, Implies, All, Exists}
use Rattle.nj_formula.specs.Statement.{neg, conj, disj, implies, every, exists}
use Rattle.nj_formula.specs.Meaning.{meaning}
use Rattle.nj_formula.proofs.KnownFormulas.{fold-False, fold-Atom, fold-Not, fold-And, fold-Or, fold-Implies, fold-All, fold-Exists, formula_by_forms}
use Rattle.nj_formula.proofs.KnownMeaning.{meaning-False, meaning-Atom, meaning-Not, meaning-And, meaning-Or, meaning-Implies, meaning-All, meaning-Exists}
use Rattle.nj_syntax.specs.declared.operator.Operator.{Operator}
use Rattle.nj_syntax.specs.declared.operator.Quantifier.{Quantifier}
use Rattle.nj_syntax.specs.Grammar.{joined, quantified}
use Rattle.nj_syntax.specs.Printed.{Spoken, spoken_layer, enclosed, text_in, atom_text, operator_between, quantifier_text}

both : {A : Type 0} (f : A → A → A) (p q r s : A) → p ≡ q → r ≡ s → f p r ≡ f q s
both f p q r s e h = ap (λ x. f x r) e ∙ ap (f q) h

-- what is said is the formula's meaning
pub says_meaning : (a : Formula) → (fold-Formula Spoken spoken_layer a).says ≡ meaning a
says_meaning =
    formula_by_forms (λ a. (fold-Formula Spoken spoken_layer a).says ≡ meaning a)
    (ap (λ s. s.says) (fold-False spoken_layer) ∙ sym meaning-False)
    (λ p args. ap (λ s. s.says) (fold-Atom spoken_layer p args) ∙ sym (meaning-Atom p args))
    (λ a h. ap (λ s. s.says) (fold-Not spoken_layer a) ∙ (ap neg h ∙ sym (meaning-Not a)))
    (λ a b h k. ap (λ s. s.says) (fold-And spoken_layer a b) ∙ (both conj (fold-Formula Spoken spoken_layer a).says (meaning a) (fold-Formula Spoken spoken_layer b).says (meaning b) h k ∙ sym (meaning-And a b)))
    (λ a b h k. ap (λ s. s.says) (fold-Or spoken_layer a b) ∙ (both disj (fold-Formula Spoken spoken_layer a).says (meaning a) (fold-Formula Spoken spoken_layer b).says (meaning b) h k ∙ sym (meaning-Or a b)))
    (λ a b h k. ap (λ s. s.says) (fold-Implies spoken_layer a b) ∙ (both implies (fold-Formula Spoken spoken_layer a).says (meaning a) (fold-Formula Spoken spoken_layer b).says (meaning b) h k ∙ sym (meaning-Implies a b)))
    (λ x a h. ap (λ s. s.says) (fold-All spoken_layer x a) ∙ (ap every h ∙ sym (meaning-All x a)))
    (λ x a h. ap (λ s. s.says) (fold-Exists spoken_layer x a) ∙ (ap exists h ∙ sym (meaning-Exists x a)))

module _ (p : ℕ) (names : List (List ℕ)) where
  pub text-False : text_in p names False ≡ codes "False"
  text-False = ap (λ s. s.text p names) (fold-False spoken_layer)

  pub text-Atom : (x : List ℕ) (args : List Argument) → text_in p names (Atom x args) ≡ atom_text names x args
  text-Atom x args = ap (λ s. s.text p names) (fold-Atom spoken_layer x args)

  pub text-Not : (a : Formula) → text_in p names (Not a) ≡ enclosed 40 p (codes "~" ++ text_in 40 names a)
  text-Not a = ap (λ s. s.text p names) (fold-Not spoken_layer a)

  pub text-joined : (op : Operator) (a b : Formula)
      → text_in p names (joined op a b) ≡ operator_between op (fold-Formula Spoken spoken_layer a) (fold-Formula Spoken spoken_layer b) p names
  text-joined Operator.And a b = ap (λ s. s.text p names) (fold-And spoken_layer a b)
  text-joined Operator.Or a b = ap (λ s. s.text p names) (fold-Or spoken_layer a b)
  text-joined Operator.Implies a b = ap (λ s. s.text p names) (fold-Implies spoken_layer a b)

  pub text-quantified : (q : Quantifier) (x : List ℕ) (a : Formula)
      → text_in p names (quantified q x a) ≡ quantifier_text q x (fold-Formula Spoken spoken_layer a) p names
  text-quantified Quantifier.All x a = ap (λ s. s.text p names) (fold-All spoken_layer x a)
  text-quantified Quantifier.Exists x a = ap (λ s. s.text p names) (fold-Exists spoken_layer x a)

-- what binds strongly enough for its place stands without parentheses
pub bare : (own place : ℕ) (text : List ℕ) → place ≤ own → enclosed own place text ≡ text
bare own place text fits = cond-false (nat_lt own place) (codes "(" ++ (text ++ codes ")")) text (le-ltb own place fits)

-- else in them
pub in_parentheses : (own place : ℕ) (text : List ℕ) → nat_lt own place ≡ true → enclosed own place text ≡ codes "(" ++ (text ++ codes ")")
in_parentheses own place text over = cond-true (nat_lt own place) (codes "(" ++ (text ++ codes ")")) text over
