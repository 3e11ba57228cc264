-- Which formulas stand in parentheses in a place.
use Rattle.std.proofs.Common.{◌≡◌, ◌≤◌, ℕ, nat_lt, Bool, false, List, [], ◌∷◌, sym, ◌∙◌, arith, ltb-false, le-ltb, lit≤}
use Rattle.std.proofs.lemmas.Bool.{both_ways}
use Rattle.nj_formula.specs.declared.argument.Argument.{Argument}
use Rattle.nj_formula.specs.declared.formula.Formula.{Formula}
use Rattle.nj_formula.specs.declared.formula.Formula.TheVariants as Formulas
use Rattle.nj_syntax.specs.declared.operator.Operator.{Operator}
use Rattle.nj_syntax.specs.declared.operator.Quantifier.{Quantifier}
use Rattle.nj_syntax.specs.Grammar.{priority, joined, quantified}
use Rattle.nj_syntax.specs.Prints.{enclosed_layer, is_enclosed, Prints, falsity, atom, predicate, negation, operator, quantifier, parentheses}
use Rattle.nj_formula.proofs.KnownFormulas.{fold-False, fold-Atom, fold-Not, fold-And, fold-Or, fold-Implies, fold-All, fold-Exists}

pub enclosed-Not : (p : ℕ) (a : Formula) → is_enclosed p (Formulas.Not a) ≡ nat_lt 40 p
enclosed-Not p a = fold-Not (enclosed_layer p) a

pub enclosed-joined : (p : ℕ) (op : Operator) (a b : Formula) → is_enclosed p (joined op a b) ≡ nat_lt (priority op) p
enclosed-joined p Operator.And a b = fold-And (enclosed_layer p) a b
enclosed-joined p Operator.Or a b = fold-Or (enclosed_layer p) a b
enclosed-joined p Operator.Implies a b = fold-Implies (enclosed_layer p) a b

pub enclosed-quantified : (p : ℕ) (q : Quantifier) (x : List ℕ) (a : Formula) → is_enclosed p (quantified q x a) ≡ nat_lt 10 p
enclosed-quantified p Quantifier.All x a = fold-All (enclosed_layer p) x a
enclosed-quantified p Quantifier.Exists x a = fold-Exists (enclosed_layer p) x a

pub enclosed-False : (p : ℕ) → is_enclosed p Formulas.False ≡ false
enclosed-False p = fold-False (enclosed_layer p)

pub enclosed-Atom : (p : ℕ) (x : List ℕ) (args : List Argument) → is_enclosed p (Formulas.Atom x args) ≡ false
enclosed-Atom p x args = fold-Atom (enclosed_layer p) x args

within : {p n : ℕ} {b : Bool} → b ≡ nat_lt n p → b ≡ false → p ≤ n
within {p} {n} e h = ltb-false n p (sym e ∙ h)

loose : {k n : ℕ} {b : Bool} → b ≡ nat_lt n k → 10 ≤ n → k ≤ 10 → b ≡ false
loose {k} {n} e most low = e ∙ le-ltb n k (omega arith)

pub least_priority : (op : Operator) → 10 ≤ priority op
least_priority Operator.And = lit≤ tt
least_priority Operator.Or = lit≤ tt
least_priority Operator.Implies = lit≤ tt

-- no formula is enclosed in a place for the priority 10
pub outermost : {p k : ℕ} {names : List (List ℕ)} {f : Formula} {text : List ℕ} → k ≤ 10 → Prints p names f text → is_enclosed k f ≡ false
outermost {k = k} low falsity = enclosed-False k
outermost {k = k} low (atom {x = x}) = enclosed-Atom k x []
outermost {k = k} low (predicate {x = x} {t = t} {more = more}) = enclosed-Atom k x (t ∷ more)
outermost {k = k} low (negation {a = a} h d) = loose (enclosed-Not k a) (lit≤ tt) low
outermost {k = k} low (operator {a = a} {b = b} op h d e) = loose (enclosed-joined k op a b) (least_priority op) low
outermost {k = k} low (quantifier {x = x} {a = a} q h primed d) = loose (enclosed-quantified k q x a) (lit≤ tt) low
outermost low (parentheses over d) = outermost low d

-- a print of a formula that fits a place is a print in that place
pub in_place : {p k : ℕ} {names : List (List ℕ)} {f : Formula} {text : List ℕ} → is_enclosed p f ≡ false → k ≤ 10 → Prints k names f text → Prints p names f text
in_place fits low falsity = falsity
in_place fits low atom = atom
in_place fits low predicate = predicate
in_place {p} fits low (negation {a = a} h d) = negation (within (enclosed-Not p a) fits) d
in_place {p} fits low (operator {a = a} {b = b} op h d e) = operator op (within (enclosed-joined p op a b) fits) d e
in_place {p} fits low (quantifier {x = x} {a = a} q h primed d) = quantifier q (within (enclosed-quantified p q x a) fits) primed d
in_place fits low (parentheses over d) = absurd (both_ways _ (outermost low d) over)
