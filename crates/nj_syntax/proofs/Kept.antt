-- A step with an operand's first token, or with one after an operand, keeps what the state says of the tokens read.
use Rattle.std.proofs.Common.{◌≡◌, ◌≤◌, ℕ, ◌+◌, Bool, true, false, ◌||◌, List, [], ◌∷◌, ◌++◌, length, Some, None, codes, bytes_eq, if◌then◌else◌, nat_lt, refl, ap, sym, subst, add-one, append_assoc}
use Rattle.std.proofs.lemmas.Bool.{ltb-true, ltb-false}
use Rattle.std.proofs.lemmas.Slice.Eq.{bytes_eq-Decides}
use Rattle.nj_formula.specs.declared.formula.Formula.{Formula}
use Rattle.nj_formula.specs.declared.formula.Formula.TheVariants as Formulas
use Rattle.nj_syntax.specs.declared.token.Token.{Token}
use Rattle.nj_syntax.specs.declared.operator.Operator.{Operator}
use Rattle.nj_syntax.specs.declared.operator.Quantifier.{Quantifier}
use Rattle.nj_syntax.specs.declared.state.Pending.{Pending}
use Rattle.nj_syntax.specs.Terms.{Deep}
use Rattle.nj_syntax.specs.Grammar.{Reads, falsity, priority, sign, joined, word}
use Rattle.nj_syntax.specs.Reduced.{place, bound_names, reduced, closed_operand}
use Rattle.nj_syntax.specs.Steps.{State, Step, after_reduced, after_closed, step_operator, step_operand, step_word, step_quantifier}
use Rattle.nj_syntax.proofs.Around.{Around, Reached}
use Rattle.nj_syntax.proofs.Frames.{priority_most, priority_least, place_most, weaker, not_read, right_read, parenthesis_read, body_read, with_left, around_one}

-- where there is a step with the token, it keeps this
abbrev pub Keeps : Bool → List Deep → Token → Step → Type 0
Keeps formula read t None = Unit {0}
Keeps formula read t (Some next) = Reached formula next.0 (read ++ (t, next.1) ∷ [])

-- the same tokens, otherwise joined
pub moved : {formula : Bool} {s : State} {xs ys : List Deep} → xs ≡ ys → Reached formula s ys → Reached formula s xs
moved {formula} {s} e reached = subst (λ ts. Reached formula s ts) (sym e) reached

moved_step : (t : Token) (next : Step) {xs ys : List Deep} → xs ≡ ys → Keeps true ys t next → Keeps true xs t next
moved_step t next e kept = subst (λ ts. Keeps true ts t next) (sym e) kept

either_way : {A : Type 0} (P : A → Type 0) (b : Bool) {x y : A} → (b ≡ true → P x) → (b ≡ false → P y) → P (if b then x else y)
either_way P true holds fails = holds refl
either_way P false holds fails = fails refl

closed_kept : {pending : List Pending} {read : List Deep} → Around pending read → {p : ℕ} {last : List Deep} {a : Formula} → place pending ≤ p
    → Reads p (length pending) (bound_names pending) last a → Keeps true (read ++ last) Token.Close (after_closed (closed_operand pending a))
closed_kept Around.top le reads = tt
closed_kept (Around.negated {pending = pending} {read = read} around) {last = last} le reads =
    moved_step Token.Close _ (append_assoc read ((Token.Not, length pending) ∷ []) last) (closed_kept around (place_most pending) (not_read le reads))
closed_kept (Around.right {pending = pending} {read = read} {left = left} op around most l) {last = last} le reads =
    moved_step Token.Close _ (with_left read left last (sign op, length pending)) (closed_kept around most (right_read op le l reads))
closed_kept (Around.parenthesis {pending = pending} {read = read} around) {last = last} le reads =
    moved (around_one read last (Token.Open, length pending) (Token.Close, length pending)) (Reached.operator around (parenthesis_read le reads))
closed_kept (Around.body {pending = pending} {read = read} q x around most) {last = last} le reads =
    moved_step Token.Close _ (append_assoc read ((Token.Name (word q), length pending) ∷ (Token.Name x, length pending) ∷ (Token.Dot, length pending) ∷ []) last)
    (closed_kept around most (body_read q x le reads))

module _ (op : Operator) where
  stays : {p : ℕ} {pending : List Pending} {read last : List Deep} {a : Formula} → Around pending read → place pending ≤ priority op
      → priority op + 1 ≤ p → Reads p (length pending) (bound_names pending) last a
      → Keeps true (read ++ last) (sign op) (after_reduced op (pending, a))
  stays {pending = pending} {read = read} {last = last} around most le reads =
      moved (append_assoc read last ((sign op, length pending) ∷ [])) (Reached.operand (Around.right op around most (weaker le reads)))

  reduced_kept : {pending : List Pending} {read : List Deep} → Around pending read → {p : ℕ} {last : List Deep} {a : Formula} → place pending ≤ p
      → priority op + 1 ≤ p → Reads p (length pending) (bound_names pending) last a
      → Keeps true (read ++ last) (sign op) (after_reduced op (reduced op pending a))
  reduced_kept Around.top le more reads = stays Around.top (priority_least op) more reads
  reduced_kept (Around.negated {pending = pending} {read = read} around) {last = last} {a = a} le more reads =
      moved_step (sign op) (after_reduced op (reduced op pending (Formulas.Not a))) (append_assoc read ((Token.Not, length pending) ∷ []) last)
      (reduced_kept around (place_most pending) (priority_most op) (not_read le reads))
  reduced_kept (Around.right {pending = pending} {read = read} {left = left} {a = b} before around most l) {last = last} {a = a} le more reads =
      either_way (λ held. Keeps true ((read ++ (left ++ (sign before, length pending) ∷ [])) ++ last) (sign op) (after_reduced op held))
      (nat_lt (priority op) (priority before))
      (λ stronger. moved_step (sign op) (after_reduced op (reduced op pending (joined before b a))) (with_left read left last (sign before, length pending))
      (reduced_kept around most (rw add-one (ltb-true _ _ stronger)) (right_read before le l reads)))
      (λ weak. stays (Around.right before around most l) (ltb-false _ _ weak) more reads)
  reduced_kept (Around.parenthesis around) le more reads = stays (Around.parenthesis around) (priority_least op) more reads
  reduced_kept (Around.body q x around most) le more reads = stays (Around.body q x around most) (priority_least op) more reads

pub operator_kept : {pending : List Pending} {read last : List Deep} {a : Formula} → Around pending read
    → Reads 40 (length pending) (bound_names pending) last a → (t : Token) → Keeps true (read ++ last) t (step_operator pending a t)
operator_kept {pending} around reads Token.And = reduced_kept Operator.And around (place_most pending) (priority_most Operator.And) reads
operator_kept {pending} around reads Token.Or = reduced_kept Operator.Or around (place_most pending) (priority_most Operator.Or) reads
operator_kept {pending} around reads Token.Implies = reduced_kept Operator.Implies around (place_most pending) (priority_most Operator.Implies) reads
operator_kept {pending} around reads Token.Close = closed_kept around (place_most pending) reads
operator_kept around reads _ = tt

module _ {pending : List Pending} {read : List Deep} (around : Around pending read) where
  same_name : {x y : List ℕ} → x ≡ y → read ++ (Token.Name x, length pending) ∷ [] ≡ read ++ (Token.Name y, length pending) ∷ []
  same_name e = ap (λ z. read ++ (Token.Name z, length pending) ∷ []) e

  quantifier_kept : (q : Quantifier) (x : List ℕ) → x ≡ word q → Keeps true read (Token.Name x) (step_quantifier pending q)
  quantifier_kept q x e =
      either_way (λ next. Keeps true read (Token.Name x) next) (nat_lt 10 (place pending)) (λ inner. tt)
      (λ outer. moved (same_name e) (Reached.binder q around (ltb-false _ _ outer)))

  not_word : (a b c : Bool) → a ≡ false → b ≡ false → c ≡ false → (a || b || c) ≡ false
  not_word a b c never nor neither = cc

  word_kept : (x : List ℕ) → Keeps true read (Token.Name x) (step_word pending x)
  word_kept x =
      either_way (λ next. Keeps true read (Token.Name x) next) (bytes_eq x (codes "False"))
      (λ is. moved (same_name ((bytes_eq-Decides x (codes "False")).0 is)) (Reached.operator around falsity))
      (λ never. either_way (λ next. Keeps true read (Token.Name x) next) (bytes_eq x (codes "ALL"))
      (λ is. quantifier_kept Quantifier.All x ((bytes_eq-Decides x (codes "ALL")).0 is))
      (λ nor. either_way (λ next. Keeps true read (Token.Name x) next) (bytes_eq x (codes "EX"))
      (λ is. quantifier_kept Quantifier.Exists x ((bytes_eq-Decides x (codes "EX")).0 is))
      (λ neither. Reached.atom x around (not_word _ _ _ never nor neither))))

  pub operand_kept : (t : Token) → Keeps true read t (step_operand pending t)
  operand_kept (Token.Name x) = word_kept x
  operand_kept Token.Not = Reached.operand (Around.negated around)
  operand_kept Token.Open = Reached.operand (Around.parenthesis around)
  operand_kept _ = tt
