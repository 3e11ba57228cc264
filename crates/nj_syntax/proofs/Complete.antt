-- The reader goes over each formula, and then holds it.
use Rattle.std.proofs.Common.{◌≡◌, ◌≤◌, ℕ, ◌+◌, suc, Bool, true, false, cond, ◌||◌, List, [], ◌∷◌, ◌++◌, length, codes, bytes_eq, Some, None, refl, ap, sym, ◌∙◌, le_trans, le_refl, arith, add-one}
use Rattle.std.proofs.lemmas.Bool.{le-ltb}
use Rattle.nj_formula.specs.declared.argument.Argument.{Argument}
use Rattle.nj_formula.specs.declared.formula.Formula.{Formula}
use Rattle.nj_formula.specs.declared.formula.Formula.TheVariants as Formulas
use Rattle.nj_syntax.specs.declared.token.Token.{Token}
use Rattle.nj_syntax.specs.declared.operator.Operator.{Operator}
use Rattle.nj_syntax.specs.declared.operator.Quantifier.{Quantifier}
use Rattle.nj_syntax.specs.declared.state.Pending.{Pending}
use Rattle.nj_syntax.specs.declared.state.Mode.{Mode}
use Rattle.nj_syntax.specs.Terms.{Deep}
use Rattle.nj_syntax.specs.Grammar.{priority, sign, joined, word, quantified, is_word, Reads, falsity, atom, predicate, parentheses, negation, operator, quantifier}
use Rattle.nj_syntax.specs.Answers.{IsFormula}
use Rattle.nj_syntax.specs.Reduced.{place, bound_names}
use Rattle.nj_syntax.specs.Steps.{State, step_word, formula_at, goes as going}
use Rattle.nj_syntax.proofs.Runs.{Runs, stays}
use Rattle.nj_syntax.proofs.Runs.{runs_append, goes_at}
use Rattle.nj_syntax.proofs.FrameSteps.{Frame, ReadsMany, predicate_closes}
use Rattle.nj_syntax.proofs.CompleteTerms.{arguments_read}
use Rattle.nj_syntax.proofs.Closing.{Closes, sign_step, close_step, formula_is}

-- a run over an operand, which is then held
pub record ReadsOperand (p : ℕ) (below : List Pending) (deep : List Deep) (a : Formula) : Type 0 where
  pub mode : Mode
  pub now : List Pending
  pub run : Runs (Mode.Operand, below) deep (mode, now)
  pub holds : Closes p below now mode a

-- a name that is no word begins an atom
parts_fail : (a b c : Bool) → a || b || c ≡ false → (a ≡ false) × (b ≡ false) × (c ≡ false)
parts_fail true b c e = cc
parts_fail false true c e = cc
parts_fail false false c e = (refl, refl, e)

atom_step : (pending : List Pending) (x : List ℕ) → is_word x ≡ false → step_word pending x ≡ going (Mode.Atom x) pending (length pending)
atom_step pending x plain =
    let parts = parts_fail (bytes_eq x (codes "False")) (bytes_eq x (codes "ALL")) (bytes_eq x (codes "EX")) plain in
    rw (parts.0, parts.1, parts.2) refl

word_step : (pending : List Pending) (q : Quantifier) → place pending ≤ 10 → step_word pending (word q) ≡ going (Mode.Binder q) pending (length pending)
word_step pending Quantifier.All within = ap (λ t. cond t None (going (Mode.Binder Quantifier.All) pending (length pending))) (le-ltb _ _ within)
word_step pending Quantifier.Exists within = ap (λ t. cond t None (going (Mode.Binder Quantifier.Exists) pending (length pending))) (le-ltb _ _ within)

-- under one thing more, the depth is one more
one_deeper : (pending : List Pending) {d : ℕ} → length pending ≡ d → suc (length pending) ≡ d + 1
one_deeper pending at = sym (add-one (length pending)) ∙ ap (λ n. n + 1) at

module _ (p : ℕ) {d : ℕ} (pending : List Pending) (at : length pending ≡ d) where
  falsity_read : ReadsOperand p pending ((Token.Name (codes "False"), d) ∷ []) Formulas.False
  falsity_read = record { mode = Mode.Operator Formulas.False; now = pending; run = goes_at refl at stays; holds = Closes.primary }

  atom_read : (x : List ℕ) → is_word x ≡ false → ReadsOperand p pending ((Token.Name x, d) ∷ []) (Formulas.Atom x [])
  atom_read x plain = record { mode = Mode.Atom x; now = pending; run = goes_at (atom_step pending x plain) at stays; holds = Closes.atom }

  predicate_read : {bound : List (List ℕ)} {inside : List Deep} {arguments : List Argument} (x : List ℕ) → is_word x ≡ false → bound_names pending ≡ bound
      → ReadsMany bound (Frame.predicate x) [] pending inside arguments
      → ReadsOperand p pending ((Token.Name x, d) ∷ (Token.Open, d) ∷ inside ++ (Token.Close, d) ∷ []) (Formulas.Atom x arguments)
  predicate_read x plain are h =
      let closes = predicate_closes pending x h.before are h.holds ∙ ap (λ all. going (Mode.Operator (Formulas.Atom x all)) pending (length pending)) h.are in
      record {
        mode = Mode.Operator _;
        now = pending;
        run = goes_at (atom_step pending x plain) at (goes_at refl at (runs_append h.run (goes_at closes at stays)));
        holds = Closes.primary;
      }

  parentheses_read : {inside : List Deep} {a : Formula} → ReadsOperand 10 (Pending.Parenthesis ∷ pending) inside a
      → ReadsOperand p pending ((Token.Open, d) ∷ inside ++ (Token.Close, d) ∷ []) a
  parentheses_read {a = a} h = record {
    mode = Mode.Operator a;
    now = pending;
    run = goes_at refl at (runs_append h.run (goes_at (close_step h.holds) at stays));
    holds = Closes.primary;
  }

  negation_read : {operand : List Deep} {a : Formula} → p ≤ 40 → ReadsOperand 40 (Pending.Not ∷ pending) operand a
      → ReadsOperand p pending ((Token.Not, d) ∷ operand) (Formulas.Not a)
  negation_read within h = record { mode = h.mode; now = h.now; run = goes_at refl at h.run; holds = Closes.negation within h.holds }

  operator_read : {left right : List Deep} {a b : Formula} (op : Operator) → p ≤ priority op → place pending ≤ p
      → ReadsOperand (priority op + 1) pending left a → ReadsOperand (priority op) (Pending.Right op a ∷ pending) right b
      → ReadsOperand p pending (left ++ (sign op, d) ∷ right) (joined op a b)
  operator_read op within room h k = record {
    mode = k.mode;
    now = k.now;
    run = runs_append h.run (goes_at (sign_step h.holds op (omega arith) (le_trans room within)) at k.run);
    holds = Closes.operator op within k.holds;
  }

  quantifier_read : {body : List Deep} {a : Formula} (q : Quantifier) (x : List ℕ) → p ≤ 10 → place pending ≤ p
      → ReadsOperand 10 (Pending.Body q x ∷ pending) body a
      → ReadsOperand p pending ((Token.Name (word q), d) ∷ (Token.Name x, d) ∷ (Token.Dot, d) ∷ body) (quantified q x a)
  quantifier_read q x within room h = record {
    mode = h.mode;
    now = h.now;
    run = goes_at (word_step pending q (le_trans room within)) at (goes_at refl at (goes_at refl at h.run));
    holds = Closes.quantifier q within h.holds;
  }

-- in a place that takes all of this priority
pub operand_read : {p d : ℕ} {bound : List (List ℕ)} {deep : List Deep} {a : Formula} → Reads p d bound deep a
    → (pending : List Pending) → place pending ≤ p → length pending ≡ d → bound_names pending ≡ bound → ReadsOperand p pending deep a
operand_read falsity pending room at are = falsity_read _ pending at
operand_read (atom {x = x} plain) pending room at are = atom_read _ pending at x plain
operand_read (predicate {x = x} plain h) pending room at are =
    predicate_read _ pending at x plain are (arguments_read h (Frame.predicate x) [] pending (ap (λ n. n + 1) at) are)
operand_read (parentheses h) pending room at are =
    parentheses_read _ pending at (operand_read h (Pending.Parenthesis ∷ pending) (le_refl 10) (one_deeper pending at) are)
operand_read (negation within h) pending room at are =
    negation_read _ pending at within (operand_read h (Pending.Not ∷ pending) (le_refl 40) (one_deeper pending at) are)
operand_read (operator {a = a} op within h k) pending room at are =
    operator_read _ pending at op within room (operand_read h pending (le_trans room (le_trans within (omega arith))) at are)
    (operand_read k (Pending.Right op a ∷ pending) (le_refl (priority op)) (one_deeper pending at) are)
operand_read (quantifier {x = x} q within h) pending room at are =
    quantifier_read _ pending at q x within room (operand_read h (Pending.Body q x ∷ pending) (le_refl 10) (one_deeper pending at) (ap (λ names. x ∷ names) are))

pub formula_complete : (deep : List Deep) (a : Formula) → IsFormula deep a → (s : State) × Runs (Mode.Operand, []) deep s × (formula_at s ≡ Some a)
formula_complete deep a h =
    let r = operand_read h [] (le_refl 10) refl refl in
    ((r.mode, r.now), r.run, formula_is r.holds)
