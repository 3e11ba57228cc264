-- With the tokens that a state has read, something begins.
use Rattle.std.proofs.Common.{◌≡◌, ◌≤◌, ℕ, suc, Bool, true, false, List, [], ◌∷◌, ◌++◌, length, codes, refl, sym, subst, append_assoc, append-nil, le_refl}
use Rattle.nj_formula.specs.declared.argument.Argument.{Argument}
use Rattle.nj_formula.specs.declared.formula.Formula.{Formula}
use Rattle.nj_syntax.specs.declared.token.Token.{Token}
use Rattle.nj_syntax.specs.declared.operator.Quantifier.{Quantifier}
use Rattle.nj_syntax.specs.declared.state.Pending.{Pending}
use Rattle.nj_syntax.specs.Terms.{Deep, AreArguments, name, apply}
use Rattle.nj_syntax.specs.Grammar.{Reads, predicate, atom, word, sign}
use Rattle.nj_syntax.specs.Answers.{IsFormula, IsTerm, Begins}
use Rattle.nj_syntax.specs.Reduced.{place, bound_names}
use Rattle.nj_syntax.specs.Steps.{State}
use Rattle.nj_syntax.proofs.Around.{Around, Within, Reached}
use Rattle.nj_syntax.proofs.Frames.{place_most, weaker, not_read, right_read, parenthesis_read, body_read, with_left, around_one, after_argument, gathered}

-- with the tokens a formula begins where the first holds, and otherwise a term
abbrev pub Begun : Bool → List Deep → Type 0
Begun true front = Begins IsFormula front
Begun false front = Begins IsTerm front

-- with the first tokens of what begins something, it begins
pub shorter : {A : Type 0} (Is : List Deep → A → Type 0) (front more : List Deep) → Begins Is (front ++ more) → Begins Is front
shorter Is front more begins =
    (more ++ begins.0, begins.1, subst (λ ts. Is ts begins.1) (append_assoc front more begins.0) begins.2)

-- the same, where what begins is joined otherwise
front_of : (formula : Bool) (front more : List Deep) {whole : List Deep} → front ++ more ≡ whole → Begun formula whole → Begun formula front
front_of true front more same begun = shorter IsFormula front more (subst (λ ts. Begins IsFormula ts) (sym same) begun)
front_of false front more same begun = shorter IsTerm front more (subst (λ ts. Begins IsTerm ts) (sym same) begun)

same_front : {front whole : List Deep} → front ≡ whole → Begins IsFormula whole → Begins IsFormula front
same_front same begun = subst (λ ts. Begins IsFormula ts) (sym same) begun

-- an operand in its place is closed by a parenthesis for each that is open
operand_begun : {pending : List Pending} {read : List Deep} → Around pending read → {p : ℕ} {last : List Deep} {a : Formula} → place pending ≤ p
    → Reads p (length pending) (bound_names pending) last a → Begins IsFormula (read ++ last)
operand_begun Around.top {last = last} {a = a} le reads = ([], a, subst (λ ts. IsFormula ts a) (sym (append-nil last)) (weaker le reads))
operand_begun (Around.negated {pending = pending} {read = read} around) {last = last} le reads =
    same_front (append_assoc read ((Token.Not, length pending) ∷ []) last) (operand_begun around (place_most pending) (not_read le reads))
operand_begun (Around.right {pending = pending} {read = read} {left = left} op around most l) {last = last} le reads =
    same_front (with_left read left last (sign op, length pending)) (operand_begun around most (right_read op le l reads))
operand_begun (Around.parenthesis {pending = pending} {read = read} around) {last = last} le reads =
    front_of true ((read ++ (Token.Open, length pending) ∷ []) ++ last) ((Token.Close, length pending) ∷ [])
    (around_one read last (Token.Open, length pending) (Token.Close, length pending))
    (operand_begun around (place_most pending) (parenthesis_read le reads))
operand_begun (Around.body {pending = pending} {read = read} q x around most) {last = last} le reads =
    same_front (append_assoc read ((Token.Name (word q), length pending) ∷ (Token.Name x, length pending) ∷ (Token.Dot, length pending) ∷ []) last)
    (operand_begun around most (body_read q x le reads))

-- so is an argument
argument_begun : {formula : Bool} {pending : List Pending} {read : List Deep} → Within formula pending read → {last : List Deep} {t : Argument}
    → AreArguments (bound_names pending) (length pending) last (t ∷ []) → Begun formula (read ++ last)
argument_begun Within.bare {last = last} {t = t} one = ([], t, subst (λ ts. IsTerm ts t) (sym (append-nil last)) one)
argument_begun (Within.predicate {pending = below} {read = before} {inside = inside} x around ordinary are) {last = last} one =
    front_of true ((before ++ (Token.Name x, length below) ∷ (Token.Open, length below) ∷ inside) ++ last) ((Token.Close, length below) ∷ [])
    (after_argument before inside last (Token.Name x, length below) (Token.Open, length below) (Token.Close, length below))
    (operand_begun around (place_most below) (predicate ordinary (gathered are one)))
argument_begun (Within.function {formula = formula} {pending = below} {read = before} {inside = inside} f within are) {last = last} one =
    front_of formula ((before ++ (Token.Name f, length below) ∷ (Token.Open, length below) ∷ inside) ++ last) ((Token.Close, length below) ∷ [])
    (after_argument before inside last (Token.Name f, length below) (Token.Open, length below) (Token.Close, length below))
    (argument_begun within (apply (gathered are one)))

-- a name that is no word
any : List ℕ
any = codes "A"

module _ {pending : List Pending} {read : List Deep} (around : Around pending read) where
  operand_wanted : Begins IsFormula read
  unfolding any
  operand_wanted =
      let operand : Reads 40 (length pending) (bound_names pending) ((Token.Name any, length pending) ∷ []) _ = atom {x = any} refl in
      shorter IsFormula read ((Token.Name any, length pending) ∷ []) (operand_begun around (place_most pending) operand)

  quantifier_wanted : (q : Quantifier) (x : List ℕ) → place pending ≤ 10
      → Begins IsFormula (read ++ (Token.Name (word q), length pending) ∷ (Token.Name x, length pending) ∷ [])
  unfolding any
  quantifier_wanted q x outer =
      let d : ℕ = length pending in
      let more : List Deep = (Token.Dot, d) ∷ (Token.Name any, suc d) ∷ [] in
      front_of true (read ++ (Token.Name (word q), d) ∷ (Token.Name x, d) ∷ []) more
      (append_assoc read ((Token.Name (word q), d) ∷ (Token.Name x, d) ∷ []) more)
      (operand_begun around outer (body_read q x (le_refl 10) (atom {x = any} refl)))

pub begun : {formula : Bool} {s : State} {read : List Deep} → Reached formula s read → Begun formula read
begun (Reached.operand around) = operand_wanted around
begun (Reached.binder {pending = pending} {read = read} q around outer) =
    front_of true (read ++ (Token.Name (word q), length pending) ∷ []) ((Token.Name any, length pending) ∷ [])
    (append_assoc read ((Token.Name (word q), length pending) ∷ []) ((Token.Name any, length pending) ∷ []))
    (quantifier_wanted around q any outer)
begun (Reached.dot q x around outer) = quantifier_wanted around q x outer
begun (Reached.atom {pending = pending} x around ordinary) = operand_begun around (place_most pending) (atom {x = x} ordinary)
begun (Reached.operator {pending = pending} around reads) = operand_begun around (place_most pending) reads
begun (Reached.argument {formula = formula} {pending = pending} {read = read} within) =
    front_of formula read ((Token.Name any, length pending) ∷ []) refl (argument_begun within name)
begun (Reached.head x within) = argument_begun within name
begun (Reached.comma within one) = argument_begun within one
