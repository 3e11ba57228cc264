-- What a reading says, printed, is no deeper than the reading.
use Rattle.std.proofs.Common.{◌≡◌, ◌≤◌, ◌+◌, ℕ, nat_le, true, ◌&&◌, List, [], ◌∷◌, ap, ◌∙◌, arith, le-leb, leb-true}
use Rattle.std.proofs.lemmas.Bool.{and_parts, and_from}
use Rattle.nj_formula.specs.declared.argument.Argument.{Argument}
use Rattle.nj_formula.specs.declared.formula.Formula.{Formula}
use Rattle.nj_formula.specs.Statement.{Statement, falsity, atom, neg, conj, disj, implies, every, exists}
use Rattle.nj_formula.specs.Meaning.{meaning}
use Rattle.nj_formula.proofs.KnownMeaning.{meaning-False, meaning-Atom, meaning-Not}
use Rattle.nj_syntax.specs.declared.token.Token.TheVariants as Tokens
use Rattle.nj_syntax.specs.Terms.{Deep}
use Rattle.nj_syntax.specs.Grammar as Grammar
use Rattle.nj_syntax.specs.Grammar.{priority, sign, Reads}
use Rattle.nj_syntax.specs.Within.{are_within, inside, is_within}
use Rattle.nj_syntax.proofs.FormLemmas.{meaning-joined, meaning-quantified}
use Rattle.nj_syntax.proofs.WithinTerms.{Low, low_parts, terms_within}
use Rattle.nj_syntax.proofs.WithinLemmas.{no_inside, within-join, within-bind, risen, inside_least}

atom_within : (most : ℕ) (x : List ℕ) (args : List Argument) (p d : ℕ) → d ≤ most → are_within most args (d + 1) ≡ true
    → is_within most (atom x args) p d ≡ true
atom_within most x [] p d here is = le-leb d most here
atom_within most x (t ∷ more) p d here is = and_from (nat_le d most) (are_within most (t ∷ more) (d + 1)) (le-leb d most here) is

pub reading_within : (most : ℕ) {p d : ℕ} {bound : List (List ℕ)} {deep : List Deep} {a : Formula} → Reads p d bound deep a → Low most deep
    → is_within most (meaning a) p d ≡ true
reading_within most {p} {d} Grammar.falsity low = ap (λ s. is_within most s p d) meaning-False ∙ le-leb d most low.0
reading_within most {p} {d} (Grammar.atom {x = x} plain) low = ap (λ s. is_within most s p d) (meaning-Atom x []) ∙ le-leb d most low.0
reading_within most {p} {d} (Grammar.predicate {x = x} {inside = inner} {arguments = args} plain h) low =
    ap (λ s. is_within most s p d) (meaning-Atom x args)
    ∙ atom_within most x args p d low.0 (terms_within most h (low_parts most inner ((Tokens.Close, d) ∷ []) low.1.1).0)
reading_within most {p} {d} {a = a} (Grammar.parentheses {inside = inner} h) low =
    risen most (meaning a) p 10 d (reading_within most h (low_parts most inner ((Tokens.Close, d) ∷ []) low.1).0)
reading_within most {p} {d} (Grammar.negation {a = a} fits h) low =
    ap (λ s. is_within most s p d) (meaning-Not a)
    ∙ (ap (λ e. is_within most (meaning a) 40 (e + 1)) (no_inside 40 p d fits) ∙ reading_within most h low.1)
reading_within most {p} {d} (Grammar.operator {left = left} {right = right} {a = a} {b = b} op fits h k) low =
    let parts = low_parts most left ((sign op, d) ∷ right) low in
    let n : ℕ = priority op in
    ap (λ s. is_within most s p d) (meaning-joined op a b)
    ∙ (within-join most op (meaning a) (meaning b) p d
    ∙ (ap (λ e. is_within most (meaning a) (n + 1) e && is_within most (meaning b) n (e + 1)) (no_inside n p d fits)
    ∙ and_from (is_within most (meaning a) (n + 1) d) (is_within most (meaning b) n (d + 1)) (reading_within most h parts.0) (reading_within most k parts.1.1)))
reading_within most {p} {d} (Grammar.quantifier {x = x} {a = a} q fits h) low =
    ap (λ s. is_within most s p d) (meaning-quantified q x a)
    ∙ (within-bind most q (meaning a) p d
    ∙ (ap (λ e. is_within most (meaning a) 10 (e + 1)) (no_inside 10 p d fits) ∙ reading_within most h low.1.1.1))

-- where a formula is within, its first token is
pub starts : (most : ℕ) (s : Statement) (p d : ℕ) → is_within most s p d ≡ true → d ≤ most
starts most falsity p d is = leb-true d most is
starts most (atom x []) p d is = leb-true d most is
starts most (atom x (t ∷ more)) p d is = leb-true d most (and_parts (nat_le d most) (are_within most (t ∷ more) (d + 1)) is).0
starts most (neg a) p d is = omega (arith, starts most a 40 (inside 40 p d + 1) is, inside_least 40 p d)
starts most (conj a b) p d is =
    omega (arith, inside_least 35 p d, starts most a 36 (inside 35 p d) (and_parts (is_within most a 36 (inside 35 p d)) (is_within most b 35 (inside 35 p d + 1)) is).0)
starts most (disj a b) p d is =
    omega (arith, inside_least 30 p d, starts most a 31 (inside 30 p d) (and_parts (is_within most a 31 (inside 30 p d)) (is_within most b 30 (inside 30 p d + 1)) is).0)
starts most (implies a b) p d is =
    omega (arith, inside_least 25 p d, starts most a 26 (inside 25 p d) (and_parts (is_within most a 26 (inside 25 p d)) (is_within most b 25 (inside 25 p d + 1)) is).0)
starts most (every a) p d is = omega (arith, starts most a 10 (inside 10 p d + 1) is, inside_least 10 p d)
starts most (exists a) p d is = omega (arith, starts most a 10 (inside 10 p d + 1) is, inside_least 10 p d)
