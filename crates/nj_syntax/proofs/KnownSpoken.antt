-- The texts of formulas, by their forms.
use Rattle.std.proofs.Common.{◌≡◌, ℕ, List, [], ◌++◌, codes, ap, sym, ◌∙◌}
use Rattle.nj_formula.specs.declared.argument.Argument.{Argument}
use Rattle.nj_formula.specs.declared.formula.Formula.{Formula, fold-Formula, fold-roll-Formula}
use Rattle.nj_formula.specs.declared.formula.Formula.TheOpen.{Formula-F}
use Rattle.nj_formula.specs.declared.formula.Formula.TheVariants.{Atom, Not, And, Implies, All, Exists}
use Rattle.nj_formula.specs.declared.formula.Formula.TheVariants.{rolls-Atom, rolls-Not, rolls-And, rolls-Implies, rolls-All, rolls-Exists}
use Rattle.nj_syntax.specs.declared.operator.Operator.{Operator}
use Rattle.nj_syntax.specs.declared.operator.Quantifier.{Quantifier}
use Rattle.nj_syntax.specs.Prints.{operator_text}
use Rattle.nj_syntax.specs.Printed.{Spoken, spoken_layer, enclosed, text_in, quantifier_text}

abbrev pub spoken : Formula → Spoken
spoken = fold-Formula Spoken spoken_layer

spoken-Atom : (p : List ℕ) (arguments : List Argument) → spoken (Atom p arguments) ≡ spoken_layer (Formula-F.Atom p arguments)
spoken-Atom p arguments = ap spoken (sym (rolls-Atom p arguments)) ∙ fold-roll-Formula Spoken spoken_layer (Formula-F.Atom p arguments)

spoken-Not : (a : Formula) → spoken (Not a) ≡ spoken_layer (Formula-F.Not (spoken a))
spoken-Not a = ap spoken (sym (rolls-Not a)) ∙ fold-roll-Formula Spoken spoken_layer (Formula-F.Not a)

spoken-And : (a b : Formula) → spoken (And a b) ≡ spoken_layer (Formula-F.And (spoken a) (spoken b))
spoken-And a b = ap spoken (sym (rolls-And a b)) ∙ fold-roll-Formula Spoken spoken_layer (Formula-F.And a b)

spoken-Implies : (a b : Formula) → spoken (Implies a b) ≡ spoken_layer (Formula-F.Implies (spoken a) (spoken b))
spoken-Implies a b = ap spoken (sym (rolls-Implies a b)) ∙ fold-roll-Formula Spoken spoken_layer (Formula-F.Implies a b)

spoken-All : (x : List ℕ) (a : Formula) → spoken (All x a) ≡ spoken_layer (Formula-F.All x (spoken a))
spoken-All x a = ap spoken (sym (rolls-All x a)) ∙ fold-roll-Formula Spoken spoken_layer (Formula-F.All x a)

spoken-Exists : (x : List ℕ) (a : Formula) → spoken (Exists x a) ≡ spoken_layer (Formula-F.Exists x (spoken a))
spoken-Exists x a = ap spoken (sym (rolls-Exists x a)) ∙ fold-roll-Formula Spoken spoken_layer (Formula-F.Exists x a)

module _ (place : ℕ) (names : List (List ℕ)) where
  pub says_atom : (x : List ℕ) → text_in place names (Atom x []) ≡ x
  says_atom x = ap (λ s. s.text place names) (spoken-Atom x [])

  pub says_not : (a : Formula) (t : List ℕ) → text_in 40 names a ≡ t → text_in place names (Not a) ≡ enclosed 40 place (codes "~" ++ t)
  says_not a t e = ap (λ s. s.text place names) (spoken-Not a) ∙ ap (λ u. enclosed 40 place (codes "~" ++ u)) e

  pub says_and : (a b : Formula) (t u : List ℕ) → text_in 36 names a ≡ t → text_in 35 names b ≡ u
      → text_in place names (And a b) ≡ enclosed 35 place (t ++ (operator_text Operator.And ++ u))
  says_and a b t u e f =
      ap (λ s. s.text place names) (spoken-And a b)
      ∙ (ap (λ v. enclosed 35 place (v ++ (operator_text Operator.And ++ text_in 35 names b))) e
      ∙ ap (λ v. enclosed 35 place (t ++ (operator_text Operator.And ++ v))) f)

  pub says_implies : (a b : Formula) (t u : List ℕ) → text_in 26 names a ≡ t → text_in 25 names b ≡ u
      → text_in place names (Implies a b) ≡ enclosed 25 place (t ++ (operator_text Operator.Implies ++ u))
  says_implies a b t u e f =
      ap (λ s. s.text place names) (spoken-Implies a b)
      ∙ (ap (λ v. enclosed 25 place (v ++ (operator_text Operator.Implies ++ text_in 25 names b))) e
      ∙ ap (λ v. enclosed 25 place (t ++ (operator_text Operator.Implies ++ v))) f)

  -- a quantifier over an atom
  pub says_all : (x p : List ℕ) (arguments : List Argument)
      → text_in place names (All x (Atom p arguments)) ≡ quantifier_text Quantifier.All x (spoken_layer (Formula-F.Atom p arguments)) place names
  says_all x p arguments =
      ap (λ s. s.text place names) (spoken-All x (Atom p arguments))
      ∙ ap (λ s. quantifier_text Quantifier.All x s place names) (spoken-Atom p arguments)

  pub says_exists : (x p : List ℕ) (arguments : List Argument)
      → text_in place names (Exists x (Atom p arguments)) ≡ quantifier_text Quantifier.Exists x (spoken_layer (Formula-F.Atom p arguments)) place names
  says_exists x p arguments =
      ap (λ s. s.text place names) (spoken-Exists x (Atom p arguments))
      ∙ ap (λ s. quantifier_text Quantifier.Exists x s place names) (spoken-Atom p arguments)
