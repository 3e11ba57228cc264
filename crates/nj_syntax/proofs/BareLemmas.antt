-- The print of each form, with no parentheses around it.
use Rattle.std.proofs.Common.{◌≡◌, ◌<◌, ◌+◌, ℕ, false, List, [], ◌∷◌, ◌++◌, map, codes, ap, sym, subst, ◌∙◌, ⊎_elim}
use Rattle.std.proofs.lemmas.Bool.{both_ways, cases_order}
use Rattle.nj_formula.specs.declared.argument.Argument.{Argument}
use Rattle.nj_formula.specs.declared.formula.Formula.{Formula, out-Formula, out-roll-Formula}
use Rattle.nj_formula.specs.declared.formula.Formula.TheOpen.{Formula-F}
use Rattle.nj_formula.specs.declared.formula.Formula.TheVariants as Formulas
use Rattle.nj_formula.specs.declared.formula.Formula.TheVariants.{rolls-False, rolls-Atom, rolls-Not, rolls-And, rolls-Or, rolls-Implies, rolls-All, rolls-Exists}
use Rattle.nj_formula.specs.Statement.{Statement}
use Rattle.nj_formula.specs.Meaning.{meaning}
use Rattle.nj_syntax.specs.declared.operator.Operator.{Operator}
use Rattle.nj_syntax.specs.declared.operator.Quantifier.{Quantifier}
use Rattle.nj_syntax.specs.Grammar.{priority, joined, word, quantified}
use Rattle.nj_syntax.specs.ArgumentText.{listed, argument_text}
use Rattle.nj_syntax.specs.Primed.{is_shown, with_primes, IsPrimed}
use Rattle.nj_syntax.specs.Prints.{operator_text, Prints}

-- one number of primes is the least
pub one_primed : (names : List (List ℕ)) (x : List ℕ) (body : Statement) (y z : List ℕ) → IsPrimed names x body y → IsPrimed names x body z → y ≡ z
one_primed names x body y z h k =
    ⊎_elim (λ same. h.is ∙ (ap (with_primes x) same ∙ sym k.is))
    (⊎_elim (λ less. absurd (clash h k less)) (λ more. absurd (clash k h more)))
    (cases_order h.primes k.primes)
  where
    clash : {v w : List ℕ} (f : IsPrimed names x body v) (g : IsPrimed names x body w) → f.primes < g.primes → ⊥
    clash f g less = both_ways (is_shown (with_primes x f.primes) names 1 body) (subst (λ n. is_shown n names 1 body ≡ false) f.is f.free_of) (g.least f.primes less)

pub record IsNegation (names : List (List ℕ)) (a : Formula) (text : List ℕ) : Type 0 where
  pub inner : List ℕ
  pub prints : Prints 40 names a inner
  pub is : text ≡ codes "~" ++ inner

pub record IsOperator (names : List (List ℕ)) (op : Operator) (a b : Formula) (text : List ℕ) : Type 0 where
  pub left : List ℕ
  pub right : List ℕ
  pub prints_left : Prints (priority op + 1) names a left
  pub prints_right : Prints (priority op) names b right
  pub is : text ≡ left ++ (operator_text op ++ right)

pub record IsQuantifier (names : List (List ℕ)) (q : Quantifier) (x : List ℕ) (a : Formula) (text : List ℕ) : Type 0 where
  pub name : List ℕ
  pub body : List ℕ
  pub primed : IsPrimed names x (meaning a) name
  pub prints : Prints 10 (name ∷ names) a body
  pub is : text ≡ word q ++ (codes " " ++ (name ++ (codes ". " ++ body)))

-- the bare print of each form
abbrev pub Bare : List (List ℕ) → Formula-F Formula → List ℕ → Type 0
Bare names Formula-F.False text = text ≡ codes "False"
Bare names (Formula-F.Atom x []) text = text ≡ x
Bare names (Formula-F.Atom x (t ∷ more)) text = text ≡ x ++ (codes "(" ++ (listed (map (argument_text names) (t ∷ more)) ++ codes ")"))
Bare names (Formula-F.Not a) text = IsNegation names a text
Bare names (Formula-F.And a b) text = IsOperator names Operator.And a b text
Bare names (Formula-F.Or a b) text = IsOperator names Operator.Or a b text
Bare names (Formula-F.Implies a b) text = IsOperator names Operator.Implies a b text
Bare names (Formula-F.All x a) text = IsQuantifier names Quantifier.All x a text
Bare names (Formula-F.Exists x a) text = IsQuantifier names Quantifier.Exists x a text

-- the layer of each form
pub out-False : out-Formula Formulas.False ≡ Formula-F.False
out-False = ap out-Formula (sym rolls-False) ∙ out-roll-Formula Formula-F.False

pub out-Atom : (x : List ℕ) (args : List Argument) → out-Formula (Formulas.Atom x args) ≡ Formula-F.Atom x args
out-Atom x args = ap out-Formula (sym (rolls-Atom x args)) ∙ out-roll-Formula (Formula-F.Atom x args)

pub out-Not : (a : Formula) → out-Formula (Formulas.Not a) ≡ Formula-F.Not a
out-Not a = ap out-Formula (sym (rolls-Not a)) ∙ out-roll-Formula (Formula-F.Not a)

abbrev pub layer : Operator → Formula → Formula → Formula-F Formula
layer Operator.And a b = Formula-F.And a b
layer Operator.Or a b = Formula-F.Or a b
layer Operator.Implies a b = Formula-F.Implies a b

pub out-joined : (op : Operator) (a b : Formula) → out-Formula (joined op a b) ≡ layer op a b
out-joined Operator.And a b = ap out-Formula (sym (rolls-And a b)) ∙ out-roll-Formula (Formula-F.And a b)
out-joined Operator.Or a b = ap out-Formula (sym (rolls-Or a b)) ∙ out-roll-Formula (Formula-F.Or a b)
out-joined Operator.Implies a b = ap out-Formula (sym (rolls-Implies a b)) ∙ out-roll-Formula (Formula-F.Implies a b)

abbrev pub binder : Quantifier → List ℕ → Formula → Formula-F Formula
binder Quantifier.All x a = Formula-F.All x a
binder Quantifier.Exists x a = Formula-F.Exists x a

pub out-quantified : (q : Quantifier) (x : List ℕ) (a : Formula) → out-Formula (quantified q x a) ≡ binder q x a
out-quantified Quantifier.All x a = ap out-Formula (sym (rolls-All x a)) ∙ out-roll-Formula (Formula-F.All x a)
out-quantified Quantifier.Exists x a = ap out-Formula (sym (rolls-Exists x a)) ∙ out-roll-Formula (Formula-F.Exists x a)

pub to_layer : (op : Operator) (names : List (List ℕ)) (a b : Formula) (text : List ℕ) → IsOperator names op a b text → Bare names (layer op a b) text
to_layer Operator.And names a b text v = v
to_layer Operator.Or names a b text v = v
to_layer Operator.Implies names a b text v = v

pub from_layer : (op : Operator) (names : List (List ℕ)) (a b : Formula) (text : List ℕ) → Bare names (layer op a b) text → IsOperator names op a b text
from_layer Operator.And names a b text v = v
from_layer Operator.Or names a b text v = v
from_layer Operator.Implies names a b text v = v

pub to_binder : (q : Quantifier) (names : List (List ℕ)) (x : List ℕ) (a : Formula) (text : List ℕ) → IsQuantifier names q x a text → Bare names (binder q x a) text
to_binder Quantifier.All names x a text v = v
to_binder Quantifier.Exists names x a text v = v

pub from_binder : (q : Quantifier) (names : List (List ℕ)) (x : List ℕ) (a : Formula) (text : List ℕ) → Bare names (binder q x a) text → IsQuantifier names q x a text
from_binder Quantifier.All names x a text v = v
from_binder Quantifier.Exists names x a text v = v
