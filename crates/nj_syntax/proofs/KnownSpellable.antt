-- What a text was read as is a formula that a text can say.
use Rattle.std.proofs.Common.{◌≡◌, ◌<◌, ◌+◌, ℕ, Bool, true, false, cond, ◌&&◌, not, IsTrue, List, [], ◌∷◌, ◌++◌, map, length, bytes_eq, Option, Some, None, IfSome, option_map, refl, ap, subst, ◌∙◌, arith, add-one}
use Rattle.std.proofs.lemmas.Bool.{lt-ltb, and_parts, and_from}
use Rattle.std.specs.List.{list_all, AllByRecursion}
use Rattle.nj_formula.specs.declared.argument.Argument.{Argument}
use Rattle.nj_formula.specs.declared.argument.Argument.TheVariants.{Apply}
use Rattle.nj_formula.specs.declared.formula.Formula.{Formula}
use Rattle.nj_formula.specs.declared.formula.Formula.TheVariants as Formulas
use Rattle.nj_formula.proofs.KnownArguments.{fold-Free, fold-Bound, fold-Apply}
use Rattle.nj_formula.proofs.KnownFormulas.{fold-False}
use Rattle.text_words.specs.Identifier.{is_identifier}
use Rattle.text_words.proofs.KnownLists.{each-part}
use Rattle.nj_syntax.specs.declared.token.Placed.{Placed}
use Rattle.nj_syntax.specs.declared.token.Token.{Token}
use Rattle.nj_syntax.specs.declared.token.Token.TheVariants as Tokens
use Rattle.nj_syntax.proofs.KnownNames.{IsSpelled, names_spelled}
use Rattle.nj_syntax.specs.Terms.{Deep, binder_place, named_at, named_term, AreArguments, name, apply, comma}
use Rattle.nj_syntax.specs.Grammar as Grammar
use Rattle.nj_syntax.specs.Grammar.{sign, is_word, Reads}
use Rattle.nj_syntax.specs.Answers.{AreAt, SaysWhole, IsFormula}
use Rattle.nj_syntax.proofs.KnownGrammar.{first_same, others_same, some_arguments}
use Rattle.nj_syntax.specs.Spellable.{spellable_layer, is_spellable_argument, is_spellable, IsSpellable, formula_layer as spelling_layer}
use Rattle.nj_syntax.proofs.FormLemmas.{spellable-Atom, spellable-Not, spellable-joined, spellable-quantified}

-- of each of the tokens with their depths
abbrev Spelled : List Deep → Type 0
Spelled deep = AllByRecursion (λ t. IsSpelled t.0) deep

front_of : (xs ys : List Deep) → Spelled (xs ++ ys) → Spelled xs
front_of xs ys all = (each-part (λ t. IsSpelled t.0) xs ys all).0

back_of : (xs ys : List Deep) → Spelled (xs ++ ys) → Spelled ys
back_of xs ys all = (each-part (λ t. IsSpelled t.0) xs ys all).1

spelled_at : (tokens : List Placed) (deep : List Deep) → AreAt tokens deep → AllByRecursion (λ t. IsSpelled t.token) tokens → Spelled deep
spelled_at tokens [] are all = tt
spelled_at [] (u ∷ deep) are all = cc
spelled_at (t ∷ tokens) (u ∷ deep) are all =
    let ts : List Token = map (λ p. p.token) tokens in
    let us : List Token = map (λ p. p.0) deep in
    (subst IsSpelled (first_same t.token u.0 ts us are) all.0, spelled_at tokens deep (others_same t.token u.0 ts us are) all.1)

-- which of the bound names a name is, is one of them
place_within : (bound : List (List ℕ)) (x : List ℕ)
    → IfSome (binder_place bound x) (λ n. n < length bound)
place_within [] x = tt
place_within (y ∷ bound) x = go (bytes_eq y x) (binder_place bound x) (place_within bound x)
  where
    go : (b : Bool) (o : Option ℕ) → IfSome o (λ n. n < length bound)
        → IfSome (cond b (Some 0) (option_map (λ n. n + 1) o)) (λ n. n < length (y ∷ bound))
    go true o less = omega arith
    go false None less = tt
    go false (Some n) less = omega arith

name_spellable : (k : ℕ) (x : List ℕ) (place : Option ℕ) → IfSome place (λ n. n < k) → IsTrue (is_identifier x)
    → is_spellable_argument k (named_at x place) ≡ true
name_spellable k x None within is = fold-Free (spellable_layer k) x ∙ is
name_spellable k x (Some n) within is = fold-Bound (spellable_layer k) n ∙ lt-ltb n k within

abbrev all_spellable : ℕ → List Argument → Bool
all_spellable k args = list_all (λ is. is) (map (is_spellable_argument k) args)

one_spellable : (k : ℕ) (t : Argument) → is_spellable_argument k t ≡ true → all_spellable k (t ∷ []) ≡ true
one_spellable k t is = and_from (is_spellable_argument k t) true is refl

apply_spellable : (k : ℕ) (f : List ℕ) (args : List Argument) → (args ≡ [] → ⊥) → is_identifier f ≡ true → all_spellable k args ≡ true
    → is_spellable_argument k (Apply f args) ≡ true
apply_spellable k f [] some is all = absurd (some refl)
apply_spellable k f (t ∷ more) some is all = fold-Apply (spellable_layer k) f (t ∷ more) ∙ and_from (is_identifier f) (all_spellable k (t ∷ more)) is all

terms_spellable : {bound : List (List ℕ)} {d : ℕ} {deep : List Deep} {args : List Argument} → AreArguments bound d deep args → Spelled deep
    → all_spellable (length bound) args ≡ true
terms_spellable {bound} (name {x = x}) all =
    one_spellable (length bound) (named_term bound x) (name_spellable (length bound) x (binder_place bound x) (place_within bound x) all.0)
terms_spellable {bound} {d} (apply {f = f} {inside = inside} {arguments = args} h) all =
    one_spellable (length bound) (Apply f args)
    (apply_spellable (length bound) f args (some_arguments h) all.0 (terms_spellable h (front_of inside ((Tokens.Close, d) ∷ []) all.1.1)))
terms_spellable {bound} {d} (comma {first = first} {rest = rest} {t = t} {more = more} h k) all =
    and_from (is_spellable_argument (length bound) t) (all_spellable (length bound) more)
    ((and_parts (is_spellable_argument (length bound) t) true (terms_spellable h (front_of first ((Tokens.Comma, d) ∷ rest) all))).0)
    (terms_spellable k ((back_of first ((Tokens.Comma, d) ∷ rest) all).1))

atom_spellable : (k : ℕ) (x : List ℕ) (args : List Argument) → is_identifier x ≡ true → is_word x ≡ false → all_spellable k args ≡ true
    → is_spellable (Formulas.Atom x args) k ≡ true
atom_spellable k x args is plain all =
    spellable-Atom x args k ∙ and_from (is_identifier x && not (is_word x)) (all_spellable k args)
    (and_from (is_identifier x) (not (is_word x)) is (ap not plain)) all

formula_spellable : {p d : ℕ} {bound : List (List ℕ)} {deep : List Deep} {a : Formula} → Reads p d bound deep a → Spelled deep
    → is_spellable a (length bound) ≡ true
formula_spellable {bound = bound} Grammar.falsity all = ap (λ g. g (length bound)) (fold-False spelling_layer)
formula_spellable {bound = bound} (Grammar.atom {x = x} plain) all = atom_spellable (length bound) x [] all.0 plain refl
formula_spellable {d = d} {bound = bound} (Grammar.predicate {x = x} {inside = inside} {arguments = args} plain h) all =
    atom_spellable (length bound) x args all.0 plain (terms_spellable h (front_of inside ((Tokens.Close, d) ∷ []) all.1.1))
formula_spellable {d = d} (Grammar.parentheses {inside = inside} h) all = formula_spellable h (front_of inside ((Tokens.Close, d) ∷ []) all.1)
formula_spellable {bound = bound} (Grammar.negation {a = a} fits h) all = spellable-Not a (length bound) ∙ formula_spellable h all.1
formula_spellable {d = d} {bound = bound} (Grammar.operator {left = left} {right = right} {a = a} {b = b} op fits h k) all =
    spellable-joined op a b (length bound) ∙ and_from (is_spellable a (length bound)) (is_spellable b (length bound))
    (formula_spellable h (front_of left ((sign op, d) ∷ right) all)) (formula_spellable k ((back_of left ((sign op, d) ∷ right) all).1))
formula_spellable {bound = bound} (Grammar.quantifier {x = x} {a = a} q fits h) all =
    spellable-quantified q x a (length bound) ∙ and_from (is_identifier x) (is_spellable a (length bound + 1)) all.1.0
    (ap (is_spellable a) (add-one (length bound)) ∙ formula_spellable h all.1.1.1)

-- a formula that a text was read as is spellable
pub parsed_spellable : (text : List ℕ) (a : Formula) → SaysWhole IsFormula text a → IsSpellable a
parsed_spellable text a h = formula_spellable h.is (spelled_at h.tokens h.deep h.tokens_are (names_spelled h.cut))
