-- An instance of a formula that a text can say, at a term that a text can say, is one too.
use Rattle.std.proofs.Common.{◌≡◌, ◌<◌, ◌+◌, ◌==◌, ℕ, Bool, true, false, cond, ◌&&◌, not, IsTrue, List, [], ◌∷◌, map, refl, ap, sym, ◌∙◌, arith, ltb-true}
use Rattle.std.proofs.lemmas.Bool.{lt-ltb, and_parts, and_from, both_ways}
use Rattle.std.proofs.lemmas.Bool.Decides.{nat_tests}
use Rattle.nj_formula.specs.declared.argument.Argument.{Argument}
use Rattle.nj_formula.specs.declared.argument.Argument.TheVariants.{Free, Bound, Apply}
use Rattle.nj_formula.specs.declared.formula.Formula.{Formula}
use Rattle.nj_formula.specs.declared.formula.Formula.TheVariants as Formulas
use Rattle.nj_formula.specs.Instance.{filled_layer, filled_argument}
use Rattle.nj_formula.specs.FormulaInstance.{formula_layer, filled_formula, formula_instance}
use Rattle.nj_formula.proofs.KnownArguments.{Each, fold-Free, fold-Bound, fold-Apply, by_forms}
use Rattle.nj_formula.proofs.KnownFormulas.{fold-False, fold-Atom, fold-Not, fold-And, fold-Or, fold-Implies, fold-All, fold-Exists, formula_by_forms}
use Rattle.text_words.specs.Identifier.{is_identifier}
use Rattle.nj_syntax.specs.declared.operator.Operator.{Operator}
use Rattle.nj_syntax.specs.declared.operator.Quantifier.{Quantifier}
use Rattle.nj_syntax.specs.Grammar.{joined, quantified, is_word}
use Rattle.nj_syntax.specs.Spellable.{spellable_layer, is_spellable_argument, is_spellable, IsSpellable, formula_layer as spelling_layer}
use Rattle.nj_syntax.proofs.FormLemmas.{spellable-Atom, spellable-Not, spellable-joined, spellable-quantified}
use Rattle.nj_syntax.proofs.GrowsLemmas.{all_spellable, grows}

module _ (term : Argument) (spelled : is_spellable_argument 0 term ≡ true) where
  -- with the term in the place k
  module _ (k : ℕ) where
    abbrev Filled : Argument → Type 0
    Filled t = is_spellable_argument (k + 1) t ≡ true → is_spellable_argument k (filled_argument k term t) ≡ true

    free_filled : (x : List ℕ) → Filled (Free x)
    free_filled x is =
        ap (is_spellable_argument k) (fold-Free (filled_layer k term) x) ∙ (fold-Free (spellable_layer k) x ∙ (sym (fold-Free (spellable_layer (k + 1)) x) ∙ is))

    other_place : (n : ℕ) → n < k + 1 → (n == k) ≡ false → n < k
    other_place n less other = grind (arith, nat_tests)

    bound_filled : (n : ℕ) → Filled (Bound n)
    bound_filled n is = ap (is_spellable_argument k) (fold-Bound (filled_layer k term) n) ∙ go (n == k) refl
      where
        less : n < k + 1
        less = ltb-true n (k + 1) (sym (fold-Bound (spellable_layer (k + 1)) n) ∙ is)

        go : (b : Bool) → (n == k) ≡ b → is_spellable_argument k (cond b term (Bound n)) ≡ true
        go true same = grows 0 k (omega arith) term spelled
        go false other = fold-Bound (spellable_layer k) n ∙ lt-ltb n k (other_place n less other)

    each_filled : (args : List Argument) → Each Filled args → all_spellable (k + 1) args ≡ true
        → all_spellable k (map (filled_argument k term) args) ≡ true
    each_filled [] each is = refl
    each_filled (t ∷ args) each is =
        let parts = and_parts (is_spellable_argument (k + 1) t) (all_spellable (k + 1) args) is in
        and_from (is_spellable_argument k (filled_argument k term t)) (all_spellable k (map (filled_argument k term) args))
        (each.0 parts.0) (each_filled args each.1 parts.1)

    apply_filled : (f : List ℕ) (args : List Argument) → Each Filled args → Filled (Apply f args)
    apply_filled f [] each is = absurd (both_ways false refl (sym (fold-Apply (spellable_layer (k + 1)) f []) ∙ is))
    apply_filled f (t ∷ args) each is =
        let parts = and_parts (is_identifier f) (all_spellable (k + 1) (t ∷ args)) (sym (fold-Apply (spellable_layer (k + 1)) f (t ∷ args)) ∙ is) in
        let new : List Argument = map (filled_argument k term) (t ∷ args) in
        ap (is_spellable_argument k) (fold-Apply (filled_layer k term) f (t ∷ args))
        ∙ (fold-Apply (spellable_layer k) f new ∙ and_from (is_identifier f) (all_spellable k new) parts.0 (each_filled (t ∷ args) each parts.1))

    argument_filled : (t : Argument) → Filled t
    argument_filled = by_forms Filled free_filled bound_filled apply_filled

    all_filled : (args : List Argument) → Each Filled args
    all_filled [] = tt
    all_filled (t ∷ args) = (argument_filled t, all_filled args)

  -- the formula with the term in any place
  abbrev FilledForm : Formula → Type 0
  FilledForm f = (k : ℕ) → is_spellable f (k + 1) ≡ true → is_spellable (filled_formula term f k) k ≡ true

  form_equation : (k : ℕ) (f g : Formula) → filled_formula term f k ≡ g → is_spellable g k ≡ true → is_spellable (filled_formula term f k) k ≡ true
  form_equation k f g is h = ap (λ h. is_spellable h k) is ∙ h

  false_filled : FilledForm Formulas.False
  false_filled k is =
      let e : filled_formula term Formulas.False k ≡ Formulas.False = ap (λ g. g k) (fold-False (formula_layer term)) in
      form_equation k Formulas.False Formulas.False e (ap (λ g. g k) (fold-False spelling_layer))

  atom_filled : (x : List ℕ) (args : List Argument) → FilledForm (Formulas.Atom x args)
  atom_filled x args k is =
      let new : List Argument = map (filled_argument k term) args in
      let e : filled_formula term (Formulas.Atom x args) k ≡ Formulas.Atom x new = ap (λ g. g k) (fold-Atom (formula_layer term) x args) in
      let parts = and_parts (is_identifier x && not (is_word x)) (all_spellable (k + 1) args) (sym (spellable-Atom x args (k + 1)) ∙ is) in
      form_equation k (Formulas.Atom x args) (Formulas.Atom x new) e (spellable-Atom x new k
      ∙ and_from (is_identifier x && not (is_word x)) (all_spellable k new) parts.0 (each_filled k args (all_filled k args) parts.1))

  not_filled : (a : Formula) → FilledForm a → FilledForm (Formulas.Not a)
  not_filled a h k is =
      let e : filled_formula term (Formulas.Not a) k ≡ Formulas.Not (filled_formula term a k) = ap (λ g. g k) (fold-Not (formula_layer term) a) in
      form_equation k (Formulas.Not a) (Formulas.Not (filled_formula term a k)) e (spellable-Not (filled_formula term a k) k ∙ h k (sym (spellable-Not a (k + 1)) ∙ is))

  joined_is : (op : Operator) (a b : Formula) (k : ℕ)
      → filled_formula term (joined op a b) k ≡ joined op (filled_formula term a k) (filled_formula term b k)
  joined_is Operator.And a b k = ap (λ g. g k) (fold-And (formula_layer term) a b)
  joined_is Operator.Or a b k = ap (λ g. g k) (fold-Or (formula_layer term) a b)
  joined_is Operator.Implies a b k = ap (λ g. g k) (fold-Implies (formula_layer term) a b)

  joined_filled : (op : Operator) (a b : Formula) → FilledForm a → FilledForm b → FilledForm (joined op a b)
  joined_filled op a b h j k is =
      let parts = and_parts (is_spellable a (k + 1)) (is_spellable b (k + 1)) (sym (spellable-joined op a b (k + 1)) ∙ is) in
      let new_a : Formula = filled_formula term a k in
      let new_b : Formula = filled_formula term b k in
      form_equation k (joined op a b) (joined op new_a new_b) (joined_is op a b k)
      (spellable-joined op new_a new_b k ∙ and_from (is_spellable new_a k) (is_spellable new_b k) (h k parts.0) (j k parts.1))

  bound_is : (q : Quantifier) (x : List ℕ) (a : Formula) (k : ℕ)
      → filled_formula term (quantified q x a) k ≡ quantified q x (filled_formula term a (k + 1))
  bound_is Quantifier.All x a k = ap (λ g. g k) (fold-All (formula_layer term) x a)
  bound_is Quantifier.Exists x a k = ap (λ g. g k) (fold-Exists (formula_layer term) x a)

  quantified_filled : (q : Quantifier) (x : List ℕ) (a : Formula) → FilledForm a → FilledForm (quantified q x a)
  quantified_filled q x a h k is =
      let parts = and_parts (is_identifier x) (is_spellable a ((k + 1) + 1)) (sym (spellable-quantified q x a (k + 1)) ∙ is) in
      let new : Formula = filled_formula term a (k + 1) in
      form_equation k (quantified q x a) (quantified q x new) (bound_is q x a k)
      (spellable-quantified q x new k ∙ and_from (is_identifier x) (is_spellable new (k + 1)) parts.0 (h (k + 1) parts.1))

  filled_spellable : (f : Formula) → FilledForm f
  filled_spellable = formula_by_forms FilledForm false_filled atom_filled not_filled
      (joined_filled Operator.And) (joined_filled Operator.Or) (joined_filled Operator.Implies)
      (quantified_filled Quantifier.All) (quantified_filled Quantifier.Exists)

pub instance_spellable : (t : Argument) (a : Formula) → IsTrue (is_spellable_argument 0 t) → IsTrue (is_spellable a 1) → IsSpellable (formula_instance t a)
instance_spellable t a spelled is = filled_spellable t spelled a 0 is
