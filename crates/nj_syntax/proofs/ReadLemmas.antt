-- The print of a formula is read as the formula, up to bound names, and has the pairs of parentheses that it wants.
use Rattle.std.proofs.Common.{◌≡◌, ◌≤◌, ◌+◌, ℕ, Bool, true, false, ◌&&◌, not, List, [], ◌∷◌, map, length, refl, ap, sym, subst, ◌∙◌, arith, add-one}
use Rattle.std.proofs.lemmas.Bool.{and_parts, and_from, not-true}
use Rattle.std.specs.List.{list_all}
use Rattle.nj_formula.specs.declared.argument.Argument.{Argument}
use Rattle.nj_formula.specs.declared.formula.Formula.{Formula}
use Rattle.nj_formula.specs.declared.formula.Formula.TheVariants as Formulas
use Rattle.nj_formula.specs.Meaning.{meaning}
use Rattle.nj_formula.proofs.KnownMeaning.{meaning-Atom, meaning-Not}
use Rattle.nj_syntax.specs.declared.token.Placed.{Placed}
use Rattle.nj_syntax.specs.Tokens.{AreTokens}
use Rattle.nj_syntax.proofs.KnownTokens.{one_reading}
use Rattle.nj_syntax.specs.Answers.{IsFormula}
use Rattle.nj_syntax.specs.Terms.{Deep}
use Rattle.nj_syntax.specs.Grammar.{is_word}
use Rattle.nj_syntax.specs.Prints.{Prints, falsity, atom, predicate, negation, operator, quantifier, parentheses}
use Rattle.text_words.specs.Identifier.{is_identifier}
use Rattle.nj_syntax.specs.Spellable.{is_spellable_argument, is_spellable, IsSpellable}
use Rattle.nj_syntax.specs.ReadBack.{IsReadBack}
use Rattle.nj_syntax.specs.Opens.{opens}
use Rattle.nj_syntax.proofs.FormLemmas.{meaning-joined, meaning-quantified, spellable-Atom, spellable-Not, spellable-joined, spellable-quantified}
use Rattle.nj_syntax.proofs.FreshLemmas.{Fresh, fresh_left, fresh_right, fresh_body}
use Rattle.nj_syntax.proofs.SpellsWhole.{cut_whole, text_of}
use Rattle.nj_syntax.proofs.OpensLemmas.{opens_of, wanted, reading_has}
use Rattle.nj_syntax.proofs.FormReadLemmas.{negation_read, operator_read, quantifier_read, parentheses_read}
use Rattle.nj_syntax.proofs.AtomReadLemmas.{identifier_primed, false_read, atom_read, predicate_read, IsRead}
use Rattle.nj_syntax.proofs.EnclosedReading.{enclosed_wants, enclosed_deeper}

-- an atom's name and arguments
atom_parts : (x : List ℕ) (args : List Argument) (n : ℕ) → is_spellable (Formulas.Atom x args) n ≡ true
    → (is_identifier x ≡ true) × (is_word x ≡ false) × (list_all (λ is. is) (map (is_spellable_argument n) args) ≡ true)
atom_parts x args n is =
    let outer = and_parts (is_identifier x && not (is_word x)) (list_all (λ is. is) (map (is_spellable_argument n) args)) (sym (spellable-Atom x args n) ∙ is) in
    let inner = and_parts (is_identifier x) (not (is_word x)) outer.0 in
    (inner.0, not-true (is_word x) inner.1, outer.1)

pub read_back : {p : ℕ} {names : List (List ℕ)} {f : Formula} {text : List ℕ} → Prints p names f text → (d : ℕ)
    → list_all is_identifier names ≡ true → is_spellable f (length names) ≡ true → Fresh names (meaning f) → IsRead p d names (meaning f) text
read_back {p} {names} falsity d identifiers is fresh = false_read p d names
read_back {p} {names} (atom {x = x}) d identifiers is fresh =
    let parts = atom_parts x [] (length names) is in atom_read p d names x parts.0 parts.1
read_back {p} {names} (predicate {x = x} {t = t} {more = more}) d identifiers is fresh =
    let parts = atom_parts x (t ∷ more) (length names) is in
    predicate_read p d names x parts.0 parts.1 t more identifiers parts.2 (subst (Fresh names) (meaning-Atom x (t ∷ more)) fresh)
read_back {p} {names} (negation {a = a} {text = text} fits h) d identifiers is fresh =
    negation_read p d names a text fits
    (read_back h (d + 1) identifiers (sym (spellable-Not a (length names)) ∙ is) (subst (Fresh names) (meaning-Not a) fresh))
read_back {p} {names} (operator {a = a} {b = b} {left = left} {right = right} op fits h k) d identifiers is fresh =
    let parts = and_parts (is_spellable a (length names)) (is_spellable b (length names)) (sym (spellable-joined op a b (length names)) ∙ is) in
    let said = subst (Fresh names) (meaning-joined op a b) fresh in
    operator_read op p d names a b left right fits
    (read_back h d identifiers parts.0 (fresh_left op names (meaning a) (meaning b) said))
    (read_back k (d + 1) identifiers parts.1 (fresh_right op names (meaning a) (meaning b) said))
read_back {p} {names} (quantifier {x = x} {y = y} {a = a} {text = text} q fits primed h) d identifiers is fresh =
    let parts = and_parts (is_identifier x) (is_spellable a (length names + 1)) (sym (spellable-quantified q x a (length names)) ∙ is) in
    let named = identifier_primed x y primed.primes primed.is parts.0 in
    let deeper : is_spellable a (length (y ∷ names)) ≡ true = ap (is_spellable a) (sym (add-one (length names))) ∙ parts.1 in
    let said = subst (Fresh names) (meaning-quantified q x a) fresh in
    quantifier_read q p d names x y a text fits named
    (read_back h (d + 1) (and_from (is_identifier y) (list_all is_identifier names) named identifiers) deeper (fresh_body q names y (meaning a) said primed.free_of))
read_back {p} {names} {f} (parentheses {text = text} over h) d identifiers is fresh =
    parentheses_read p d names f text (enclosed_wants p h over) (λ most. enclosed_deeper p d most h over) (read_back h (d + 1) identifiers is fresh)

pub outermost_read : (a : Formula) (text : List ℕ) → IsSpellable a → Prints 10 [] a text → IsRead 10 0 [] (meaning a) text
outermost_read a text spellable h = read_back h 0 refl spellable tt

pub reads_back : (a : Formula) (text : List ℕ) → IsSpellable a → Prints 10 [] a text → IsReadBack a text
reads_back a text spellable h =
    let read = outermost_read a text spellable h in
    (read.formula, text_of IsFormula read.spells read.reads, read.says)

pub fewest_parentheses : (a b : Formula) (text : List ℕ) (tokens : List Placed) (stop : ℕ) (whole : Bool) (deep : List Deep)
    → IsSpellable a → Prints 10 [] a text → AreTokens 0 text tokens stop whole → IsFormula deep b → meaning b ≡ meaning a
    → opens (map (λ t. t.token) tokens) ≤ opens_of deep
fewest_parentheses a b text tokens stop whole deep spellable h cut k same =
    let read = outermost_read a text spellable h in
    let own = cut_whole read.spells in
    let printed : opens (map (λ t. t.token) tokens) ≡ opens_of read.deep =
    ap (λ ts. opens (map (λ t. t.token) ts)) (one_reading cut own.2).0 ∙ ap opens own.1 in
    omega (arith, printed, read.opens_are, ap (wanted 10) same, reading_has k)
