-- How the reader holds an operand whose last token it has read: its operators are pending until what follows takes them in.
use Rattle.std.proofs.Common.{◌≡◌, ◌<◌, ◌≤◌, ℕ, cond, List, [], ◌∷◌, refl, ap, ◌∙◌, lt_of_lt_of_le, arith}
use Rattle.std.proofs.lemmas.Bool.{lt-ltb, le-ltb}
use Rattle.nj_formula.specs.declared.formula.Formula.{Formula}
use Rattle.nj_formula.specs.declared.formula.Formula.TheVariants as Formulas
use Rattle.nj_syntax.specs.declared.token.Token.{Token}
use Rattle.nj_syntax.specs.declared.operator.Operator.{Operator}
use Rattle.nj_syntax.specs.declared.operator.Quantifier.{Quantifier}
use Rattle.nj_syntax.specs.declared.state.Pending.{Pending}
use Rattle.nj_syntax.specs.declared.state.Mode.{Mode}
use Rattle.nj_syntax.specs.Grammar.{priority, sign, joined, quantified}
use Rattle.nj_syntax.specs.Reduced.{place, reduced, closed_operand, finished}
use Rattle.nj_syntax.specs.Steps.{step, after_reduced, after_closed, formula_at}

-- in a place for this priority, what is pending and the mode hold the operand on top of what was pending below it
pub data Closes : ℕ → List Pending → List Pending → Mode → Formula → Type 0 where
  primary : {p : ℕ} {below : List Pending} {a : Formula} → Closes p below below (Mode.Operator a) a
  atom : {p : ℕ} {below : List Pending} {x : List ℕ} → Closes p below below (Mode.Atom x) (Formulas.Atom x [])
  negation : {p : ℕ} {below now : List Pending} {m : Mode} {a : Formula} → p ≤ 40
      → Closes 40 (Pending.Not ∷ below) now m a → Closes p below now m (Formulas.Not a)
  operator : {p : ℕ} {below now : List Pending} {m : Mode} {left b : Formula} (op : Operator) → p ≤ priority op
      → Closes (priority op) (Pending.Right op left ∷ below) now m b → Closes p below now m (joined op left b)
  quantifier : {p : ℕ} {below now : List Pending} {m : Mode} {x : List ℕ} {a : Formula} (q : Quantifier) → p ≤ 10
      → Closes 10 (Pending.Body q x ∷ below) now m a → Closes p below now m (quantified q x a)

-- the operand that the mode holds
abbrev pub value : Mode → Formula
value (Mode.Atom x) = Formulas.Atom x []
value (Mode.Operator a) = a
value m = Formulas.False

least_priority : (op : Operator) → 25 ≤ priority op
least_priority Operator.And = omega arith
least_priority Operator.Or = omega arith
least_priority Operator.Implies = omega arith

greatest_priority : (op : Operator) → priority op < 40
greatest_priority Operator.And = omega arith
greatest_priority Operator.Or = omega arith
greatest_priority Operator.Implies = omega arith

-- a sign that binds less strongly takes in the operand with all of its operators
pub reduced_value : {p : ℕ} {below now : List Pending} {m : Mode} {a : Formula} (op : Operator) → Closes p below now m a → priority op < p
    → reduced op now (value m) ≡ reduced op below a
reduced_value op primary less = refl
reduced_value op atom less = refl
reduced_value op (negation h k) less = reduced_value op k (greatest_priority op)
reduced_value op (operator {below = below} {left = left} {b = b} inner h k) less =
    let weaker = lt_of_lt_of_le less h in
    reduced_value op k weaker ∙ ap (λ t. cond t (reduced op below (joined inner left b)) (Pending.Right inner left ∷ below, b)) (lt-ltb _ _ weaker)
reduced_value op (quantifier q h k) less = absurd (let least = least_priority op in omega arith)

-- and leaves what binds less strongly than itself
pub reduced_stops : (op : Operator) (pending : List Pending) (a : Formula) → place pending ≤ priority op → reduced op pending a ≡ (pending, a)
reduced_stops op [] a within = refl
reduced_stops op (Pending.Not ∷ below) a within = absurd (let greatest = greatest_priority op in omega arith)
reduced_stops op (Pending.Right inner left ∷ below) a within =
    ap (λ t. cond t (reduced op below (joined inner left a)) (Pending.Right inner left ∷ below, a)) (le-ltb _ _ within)
reduced_stops op (Pending.Parenthesis ∷ below) a within = refl
reduced_stops op (Pending.Body q x ∷ below) a within = refl
reduced_stops op (Pending.Predicate x done ∷ below) a within = refl
reduced_stops op (Pending.Function f done ∷ below) a within = refl

pub closed_value : {p : ℕ} {below now : List Pending} {m : Mode} {a : Formula} → Closes p below now m a → closed_operand now (value m) ≡ closed_operand below a
closed_value primary = refl
closed_value atom = refl
closed_value (negation h k) = closed_value k
closed_value (operator op h k) = closed_value k
closed_value (quantifier q h k) = closed_value k

finished_value : {p : ℕ} {below now : List Pending} {m : Mode} {a : Formula} → Closes p below now m a → finished now (value m) ≡ finished below a
finished_value primary = refl
finished_value atom = refl
finished_value (negation h k) = finished_value k
finished_value (operator op h k) = finished_value k
finished_value (quantifier q h k) = finished_value k

-- the modes after an operand
data IsAfter : Mode → Type 0 where
  name : {x : List ℕ} → IsAfter (Mode.Atom x)
  formula : {a : Formula} → IsAfter (Mode.Operator a)

is_after : {p : ℕ} {below now : List Pending} {m : Mode} {a : Formula} → Closes p below now m a → IsAfter m
is_after primary = formula
is_after atom = name
is_after (negation h k) = is_after k
is_after (operator op h k) = is_after k
is_after (quantifier q h k) = is_after k

sign_after : {m : Mode} (op : Operator) (now : List Pending) → IsAfter m → step (m, now) (sign op) ≡ after_reduced op (reduced op now (value m))
sign_after Operator.And now name = refl
sign_after Operator.Or now name = refl
sign_after Operator.Implies now name = refl
sign_after Operator.And now formula = refl
sign_after Operator.Or now formula = refl
sign_after Operator.Implies now formula = refl

close_after : {m : Mode} (now : List Pending) → IsAfter m → step (m, now) Token.Close ≡ after_closed (closed_operand now (value m))
close_after now name = refl
close_after now formula = refl

formula_after : {m : Mode} (now : List Pending) → IsAfter m → formula_at (m, now) ≡ finished now (value m)
formula_after now name = refl
formula_after now formula = refl

-- what the next token makes of the operand
module _ {p : ℕ} {below now : List Pending} {m : Mode} {a : Formula} (h : Closes p below now m a) where
  pub sign_step : (op : Operator) → priority op < p → place below ≤ priority op → step (m, now) (sign op) ≡ after_reduced op (below, a)
  sign_step op less within = sign_after op now (is_after h) ∙ ap (after_reduced op) (reduced_value op h less ∙ reduced_stops op below a within)

  pub close_step : step (m, now) Token.Close ≡ after_closed (closed_operand below a)
  close_step = close_after now (is_after h) ∙ ap after_closed (closed_value h)

  pub formula_is : formula_at (m, now) ≡ finished below a
  formula_is = formula_after now (is_after h) ∙ finished_value h
