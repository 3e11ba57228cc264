-- How many pairs of parentheses a place wants, and that no reading has fewer.
use Rattle.std.proofs.Common.{◌≡◌, ◌≤◌, ◌+◌, ℕ, nat_lt, Bool, true, false, cond, List, [], ◌∷◌, ◌++◌, map, refl, ap, ◌∙◌, arith, le-ltb, Option, Some, None}
use Rattle.std.proofs.lemmas.List.{map-append}
use Rattle.nj_formula.specs.declared.argument.Argument.{Argument, fold-Argument}
use Rattle.nj_formula.specs.declared.argument.Argument.TheOpen.{Argument-F}
use Rattle.nj_formula.specs.declared.formula.Formula.{Formula}
use Rattle.nj_formula.specs.Statement.{Statement, falsity, atom, neg, conj, disj, implies, every, exists}
use Rattle.nj_formula.specs.Meaning.{meaning}
use Rattle.nj_formula.proofs.KnownMeaning.{meaning-False, meaning-Atom, meaning-Not}
use Rattle.nj_syntax.specs.declared.token.Token.{Token}
use Rattle.nj_syntax.specs.declared.token.Token.TheVariants as Tokens
use Rattle.nj_syntax.specs.declared.operator.Operator.{Operator}
use Rattle.nj_syntax.specs.declared.operator.Quantifier.{Quantifier}
use Rattle.nj_syntax.specs.Terms.{Deep, binder_place, named_at, AreArguments, name, apply, comma}
use Rattle.nj_syntax.specs.Grammar as Grammar
use Rattle.nj_syntax.specs.Grammar.{priority, sign, Reads}
use Rattle.nj_syntax.specs.Opens.{opens}
use Rattle.nj_formula.proofs.KnownArguments.{fold-Free, fold-Bound, fold-Apply}
use Rattle.nj_syntax.proofs.LengthLemmas.{total}
use Rattle.nj_syntax.proofs.FormLemmas.{join, bind, meaning-joined, meaning-quantified}

abbrev pub opens_of : List Deep → ℕ
opens_of deep = opens (map (λ t. t.0) deep)

opens-append : (ts us : List Token) → opens (ts ++ us) ≡ opens ts + opens us
opens-append [] us = omega arith
opens-append (Tokens.Open ∷ ts) us = omega (arith, opens-append ts us)
opens-append (t ∷ ts) us = opens-append ts us

pub opens_of-append : (ds es : List Deep) → opens_of (ds ++ es) ≡ opens_of ds + opens_of es
opens_of-append ds es = ap opens (map-append (λ t. t.0) ds es) ∙ opens-append (map (λ t. t.0) ds) (map (λ t. t.0) es)

-- of terms, each pair is wanted
abbrev pub wanted_layer : Argument-F ℕ → ℕ
wanted_layer (Argument-F.Free x) = 0
wanted_layer (Argument-F.Bound place) = 0
wanted_layer (Argument-F.Apply f wanted) = total wanted + 1

abbrev pub wanted_term : Argument → ℕ
wanted_term = fold-Argument ℕ wanted_layer

abbrev pub wanted_terms : List Argument → ℕ
wanted_terms args = total (map wanted_term args)

abbrev pub wanted_atom : List Argument → ℕ
wanted_atom [] = 0
wanted_atom (t ∷ more) = wanted_terms (t ∷ more) + 1

-- a pair around what binds with the priority n, in a place for p
abbrev pub pair : ℕ → ℕ → ℕ
pair n p = cond (nat_lt n p) 1 0

-- of a formula in a place for the priority p
abbrev pub wanted : ℕ → Statement → ℕ
wanted p falsity = 0
wanted p (atom x args) = wanted_atom args
wanted p (neg a) = pair 40 p + wanted 40 a
wanted p (conj a b) = pair 35 p + (wanted 36 a + wanted 35 b)
wanted p (disj a b) = pair 30 p + (wanted 31 a + wanted 30 b)
wanted p (implies a b) = pair 25 p + (wanted 26 a + wanted 25 b)
wanted p (every a) = pair 10 p + wanted 10 a
wanted p (exists a) = pair 10 p + wanted 10 a

pub wanted-join : (op : Operator) (p : ℕ) (s t : Statement) → wanted p (join op s t) ≡ pair (priority op) p + (wanted (priority op + 1) s + wanted (priority op) t)
wanted-join Operator.And p s t = refl
wanted-join Operator.Or p s t = refl
wanted-join Operator.Implies p s t = refl

pub wanted-bind : (q : Quantifier) (p : ℕ) (s : Statement) → wanted p (bind q s) ≡ pair 10 p + wanted 10 s
wanted-bind Quantifier.All p s = refl
wanted-bind Quantifier.Exists p s = refl

pub no_pair : (n p : ℕ) → p ≤ n → pair n p ≡ 0
no_pair n p fits = ap (λ b. cond b 1 0) (le-ltb n p fits)

pair_most : (n p : ℕ) → pair n p ≤ 1
pair_most n p = most (nat_lt n p)
  where
    most : (b : Bool) → cond b 1 0 ≤ 1
    most true = omega arith
    most false = omega arith

-- another place wants one pair more at most
pub wanted_most : (p q : ℕ) (s : Statement) → wanted p s ≤ wanted q s + 1
wanted_most p q falsity = omega arith
wanted_most p q (atom x args) = omega arith
wanted_most p q (neg a) = omega (arith, pair_most 40 p)
wanted_most p q (conj a b) = omega (arith, pair_most 35 p)
wanted_most p q (disj a b) = omega (arith, pair_most 30 p)
wanted_most p q (implies a b) = omega (arith, pair_most 25 p)
wanted_most p q (every a) = omega (arith, pair_most 10 p)
wanted_most p q (exists a) = omega (arith, pair_most 10 p)

wanted-named_at : (x : List ℕ) (place : Option ℕ) → wanted_term (named_at x place) ≡ 0
wanted-named_at x None = fold-Free wanted_layer x
wanted-named_at x (Some n) = fold-Bound wanted_layer n

-- terms have the pairs that they want
pub terms_have : {bound : List (List ℕ)} {d : ℕ} {deep : List Deep} {args : List Argument} → AreArguments bound d deep args → opens_of deep ≡ wanted_terms args
terms_have {bound} (name {x = x}) = omega (arith, wanted-named_at x (binder_place bound x))
terms_have {d = d} (apply {f = f} {inside = inside} {arguments = args} h) =
    omega (arith, opens_of-append inside ((Tokens.Close, d) ∷ []), terms_have h, fold-Apply wanted_layer f args)
terms_have {d = d} (comma {first = first} {rest = rest} h k) =
    omega (arith, opens_of-append first ((Tokens.Comma, d) ∷ rest), terms_have h, terms_have k)

atom_most : (args : List Argument) → wanted_atom args ≤ wanted_terms args + 1
atom_most [] = omega arith
atom_most (t ∷ more) = omega arith

pub opens-sign : (op : Operator) (d : ℕ) (deep : List Deep) → opens_of ((sign op, d) ∷ deep) ≡ opens_of deep
opens-sign Operator.And d deep = refl
opens-sign Operator.Or d deep = refl
opens-sign Operator.Implies d deep = refl

-- no reading has fewer than what it says wants
pub reading_has : {p d : ℕ} {bound : List (List ℕ)} {deep : List Deep} {a : Formula} → Reads p d bound deep a → wanted p (meaning a) ≤ opens_of deep
reading_has {p} Grammar.falsity = omega (arith, ap (wanted p) meaning-False)
reading_has {p} (Grammar.atom {x = x} no_word) = omega (arith, ap (wanted p) (meaning-Atom x []))
reading_has {p} {d} (Grammar.predicate {x = x} {inside = inside} {arguments = args} no_word h) =
    omega (arith, ap (wanted p) (meaning-Atom x args), opens_of-append inside ((Tokens.Close, d) ∷ []), terms_have h, atom_most args)
reading_has {p} {d} {a = a} (Grammar.parentheses {inside = inside} h) =
    omega (arith, wanted_most p 10 (meaning a), opens_of-append inside ((Tokens.Close, d) ∷ []), reading_has h)
reading_has {p} (Grammar.negation {a = a} fits h) =
    omega (arith, ap (wanted p) (meaning-Not a), no_pair 40 p fits, reading_has h)
reading_has {p} {d} (Grammar.operator {left = left} {right = right} {a = a} {b = b} op fits h k) =
    omega (
      arith,
      ap (wanted p) (meaning-joined op a b),
      wanted-join op p (meaning a) (meaning b),
      no_pair (priority op) p fits,
      opens_of-append left ((sign op, d) ∷ right),
      opens-sign op d right,
      reading_has h,
      reading_has k,
    )
reading_has {p} (Grammar.quantifier {x = x} {a = a} q fits h) =
    omega (arith, ap (wanted p) (meaning-quantified q x a), wanted-bind q p (meaning a), no_pair 10 p fits, reading_has h)
