-- What stands in parentheses in a place wants a pair there, and stands one level deeper.
use Rattle.std.proofs.Common.{◌≡◌, ◌+◌, ℕ, nat_lt, Bool, true, ◌&&◌, List, [], ◌∷◌, ap, sym, ◌∙◌, arith, cond, lit≤}
use Rattle.std.proofs.lemmas.Bool.{both_ways}
use Rattle.nj_formula.specs.declared.formula.Formula.{Formula}
use Rattle.nj_formula.specs.declared.formula.Formula.TheVariants as Formulas
use Rattle.nj_formula.specs.Meaning.{meaning}
use Rattle.nj_formula.proofs.KnownMeaning.{meaning-Not}
use Rattle.nj_syntax.specs.Grammar.{priority}
use Rattle.nj_syntax.specs.Prints.{is_enclosed, Prints, falsity, atom, predicate, negation, operator, quantifier, parentheses}
use Rattle.nj_syntax.specs.Within.{inside, is_within}
use Rattle.nj_syntax.proofs.WithinLemmas.{no_inside, one_inside, within-join, within-bind}
use Rattle.nj_syntax.proofs.FormLemmas.{meaning-joined, meaning-quantified}
use Rattle.nj_syntax.proofs.EnclosedLemmas.{least_priority, enclosed-False, enclosed-Atom, enclosed-Not, enclosed-joined, enclosed-quantified}
use Rattle.nj_syntax.proofs.OpensLemmas.{wanted, wanted-join, wanted-bind, no_pair, pair}

one_pair : (n p : ℕ) {b : Bool} → b ≡ nat_lt n p → b ≡ true → pair n p ≡ 1
one_pair n p is over = ap (λ b. cond b 1 0) (sym is ∙ over)

-- what is enclosed wants a pair
pub enclosed_wants : (p : ℕ) {k : ℕ} {names : List (List ℕ)} {f : Formula} {text : List ℕ} → Prints k names f text → is_enclosed p f ≡ true
    → wanted p (meaning f) ≡ wanted 10 (meaning f) + 1
enclosed_wants p falsity over = absurd (both_ways (is_enclosed p Formulas.False) (enclosed-False p) over)
enclosed_wants p (atom {x = x}) over = absurd (both_ways (is_enclosed p (Formulas.Atom x [])) (enclosed-Atom p x []) over)
enclosed_wants p (predicate {x = x} {t = t} {more = more}) over =
    absurd (both_ways (is_enclosed p (Formulas.Atom x (t ∷ more))) (enclosed-Atom p x (t ∷ more)) over)
enclosed_wants p (negation {a = a} fits h) over =
    omega (arith, ap (wanted p) (meaning-Not a), ap (wanted 10) (meaning-Not a), one_pair 40 p (enclosed-Not p a) over, no_pair 40 10 (lit≤ tt))
enclosed_wants p (operator {a = a} {b = b} op fits h k) over =
    omega (
      arith,
      ap (wanted p) (meaning-joined op a b),
      ap (wanted 10) (meaning-joined op a b),
      wanted-join op p (meaning a) (meaning b),
      wanted-join op 10 (meaning a) (meaning b),
      one_pair (priority op) p (enclosed-joined p op a b) over,
      no_pair (priority op) 10 (least_priority op),
    )
enclosed_wants p (quantifier {x = x} {a = a} q fits primed h) over =
    omega (
      arith,
      ap (wanted p) (meaning-quantified q x a),
      ap (wanted 10) (meaning-quantified q x a),
      wanted-bind q p (meaning a),
      wanted-bind q 10 (meaning a),
      one_pair 10 p (enclosed-quantified p q x a) over,
      no_pair 10 10 (lit≤ tt),
    )
enclosed_wants p (parentheses more h) over = enclosed_wants p h over

-- and stands one level deeper
pub enclosed_deeper : (p d most : ℕ) {k : ℕ} {names : List (List ℕ)} {f : Formula} {text : List ℕ} → Prints k names f text → is_enclosed p f ≡ true
    → is_within most (meaning f) p d ≡ is_within most (meaning f) 10 (d + 1)
enclosed_deeper p d most falsity over = absurd (both_ways (is_enclosed p Formulas.False) (enclosed-False p) over)
enclosed_deeper p d most (atom {x = x}) over = absurd (both_ways (is_enclosed p (Formulas.Atom x [])) (enclosed-Atom p x []) over)
enclosed_deeper p d most (predicate {x = x} {t = t} {more = more}) over =
    absurd (both_ways (is_enclosed p (Formulas.Atom x (t ∷ more))) (enclosed-Atom p x (t ∷ more)) over)
enclosed_deeper p d most (negation {a = a} fits h) over =
    let same : inside 40 p d ≡ inside 40 10 (d + 1) = one_inside 40 p d (enclosed-Not p a) over ∙ sym (no_inside 40 10 (d + 1) (lit≤ tt)) in
    ap (λ s. is_within most s p d) (meaning-Not a)
    ∙ (ap (λ e. is_within most (meaning a) 40 (e + 1)) same ∙ ap (λ s. is_within most s 10 (d + 1)) (sym (meaning-Not a)))
enclosed_deeper p d most (operator {a = a} {b = b} op fits h k) over =
    let n : ℕ = priority op in
    let same : inside n p d ≡ inside n 10 (d + 1) = one_inside n p d (enclosed-joined p op a b) over ∙ sym (no_inside n 10 (d + 1) (least_priority op)) in
    ap (λ s. is_within most s p d) (meaning-joined op a b)
    ∙ (within-join most op (meaning a) (meaning b) p d
    ∙ (ap (λ e. is_within most (meaning a) (n + 1) e && is_within most (meaning b) n (e + 1)) same
    ∙ (sym (within-join most op (meaning a) (meaning b) 10 (d + 1)) ∙ ap (λ s. is_within most s 10 (d + 1)) (sym (meaning-joined op a b)))))
enclosed_deeper p d most (quantifier {x = x} {a = a} q fits primed h) over =
    let same : inside 10 p d ≡ inside 10 10 (d + 1) = one_inside 10 p d (enclosed-quantified p q x a) over ∙ sym (no_inside 10 10 (d + 1) (lit≤ tt)) in
    ap (λ s. is_within most s p d) (meaning-quantified q x a)
    ∙ (within-bind most q (meaning a) p d
    ∙ (ap (λ e. is_within most (meaning a) 10 (e + 1)) same
    ∙ (sym (within-bind most q (meaning a) 10 (d + 1)) ∙ ap (λ s. is_within most s 10 (d + 1)) (sym (meaning-quantified q x a)))))
enclosed_deeper p d most (parentheses more h) over = enclosed_deeper p d most h over
