-- With what the reader has read something begins, and where it may end, what it holds is what the tokens are.
use Rattle.std.proofs.Common.{◌≡◌, ◌≤◌, ℕ, Bool, true, false, List, [], ◌∷◌, ◌++◌, length, Option, Some, None, sym, subst, append_assoc}
use Rattle.nj_formula.specs.declared.argument.Argument.{Argument}
use Rattle.nj_formula.specs.declared.formula.Formula.{Formula}
use Rattle.nj_syntax.specs.declared.token.Token.{Token}
use Rattle.nj_syntax.specs.declared.state.Mode.{Mode}
use Rattle.nj_syntax.specs.declared.state.Pending.{Pending}
use Rattle.nj_syntax.specs.Terms.{Deep, AreArguments, name}
use Rattle.nj_syntax.specs.Grammar.{Reads, atom, word, sign}
use Rattle.nj_syntax.specs.Answers.{IsFormula, IsTerm, Begins}
use Rattle.nj_syntax.specs.Reduced.{place, bound_names, finished}
use Rattle.nj_syntax.specs.Steps.{State, formula_at, term_at}
use Rattle.nj_syntax.proofs.Runs.{Runs}
use Rattle.nj_syntax.proofs.Around.{Around, Within, Reached}
use Rattle.nj_syntax.proofs.Frames.{place_most, weaker, not_read, right_read, body_read, with_left}
use Rattle.nj_syntax.proofs.Held.{reached}
use Rattle.nj_syntax.proofs.Begun.{begun}

-- where a formula or a term is held, the tokens are it
abbrev Says : {A : Type 0} → (List Deep → A → Type 0) → List Deep → Option A → Type 0
Says Is read None = Unit {0}
Says Is read (Some a) = Is read a

said : {A : Type 0} (Is : List Deep → A → Type 0) (read : List Deep) {held : Option A} {a : A} → Says Is read held → held ≡ Some a → Is read a
said Is read says is = subst (λ x. Says Is read x) is says

otherwise : {A : Type 0} (Is : List Deep → A → Type 0) (held : Option A) {xs ys : List Deep} → xs ≡ ys → Says Is ys held → Says Is xs held
otherwise Is held same says = subst (λ ts. Says Is ts held) (sym same) says

finished_says : {pending : List Pending} {read : List Deep} → Around pending read → {p : ℕ} {last : List Deep} {a : Formula} → place pending ≤ p
    → Reads p (length pending) (bound_names pending) last a → Says IsFormula (read ++ last) (finished pending a)
finished_says Around.top le reads = weaker le reads
finished_says (Around.negated {pending = pending} {read = read} around) {last = last} le reads =
    otherwise IsFormula _ (append_assoc read ((Token.Not, length pending) ∷ []) last) (finished_says around (place_most pending) (not_read le reads))
finished_says (Around.right {pending = pending} {read = read} {left = left} op around most l) {last = last} le reads =
    otherwise IsFormula _ (with_left read left last (sign op, length pending)) (finished_says around most (right_read op le l reads))
finished_says (Around.parenthesis around) le reads = tt
finished_says (Around.body {pending = pending} {read = read} q x around most) {last = last} le reads =
    otherwise IsFormula _
    (append_assoc read ((Token.Name (word q), length pending) ∷ (Token.Name x, length pending) ∷ (Token.Dot, length pending) ∷ []) last)
    (finished_says around most (body_read q x le reads))

formula_says : {formula : Bool} {s : State} {read : List Deep} → Reached formula s read → Says IsFormula read (formula_at s)
formula_says (Reached.atom {pending = pending} x around ordinary) = finished_says around (place_most pending) (atom {x = x} ordinary)
formula_says (Reached.operator {pending = pending} around reads) = finished_says around (place_most pending) reads
formula_says _ = tt

head_says : {formula : Bool} {pending : List Pending} {read : List Deep} (x : List ℕ) → Within formula pending read
    → Says IsTerm (read ++ (Token.Name x, length pending) ∷ []) (term_at (Mode.Head x, pending))
head_says x Within.bare = name
head_says x (Within.predicate y around ordinary are) = tt
head_says x (Within.function f within are) = tt

comma_says : {formula : Bool} {pending : List Pending} {read : List Deep} → Within formula pending read → {last : List Deep} {t : Argument}
    → AreArguments (bound_names pending) (length pending) last (t ∷ []) → Says IsTerm (read ++ last) (term_at (Mode.Comma t, pending))
comma_says Within.bare one = one
comma_says (Within.predicate x around ordinary are) one = tt
comma_says (Within.function f within are) one = tt

term_says : {formula : Bool} {s : State} {read : List Deep} → Reached formula s read → Says IsTerm read (term_at s)
term_says (Reached.head x within) = head_says x within
term_says (Reached.comma within one) = comma_says within one
term_says _ = tt

formula_reached : {deep : List Deep} {s : State} → Runs (Mode.Operand, []) deep s → Reached true s deep
formula_reached run = reached run [] (Reached.operand Around.top)

term_reached : {deep : List Deep} {s : State} → Runs (Mode.Argument, []) deep s → Reached false s deep
term_reached run = reached run [] (Reached.argument Within.bare)

pub formula_begins : (deep : List Deep) (s : State) → Runs (Mode.Operand, []) deep s → Begins IsFormula deep
formula_begins deep s run = begun (formula_reached run)

pub formula_sound : (deep : List Deep) (s : State) (a : Formula) → Runs (Mode.Operand, []) deep s → formula_at s ≡ Some a → IsFormula deep a
formula_sound deep s a run is = said IsFormula deep (formula_says (formula_reached run)) is

pub term_begins : (deep : List Deep) (s : State) → Runs (Mode.Argument, []) deep s → Begins IsTerm deep
term_begins deep s run = begun (term_reached run)

pub term_sound : (deep : List Deep) (s : State) (t : Argument) → Runs (Mode.Argument, []) deep s → term_at s ≡ Some t → IsTerm deep t
term_sound deep s t run is = said IsTerm deep (term_says (term_reached run)) is
