-- Each formula has a print.
use Rattle.std.proofs.Common.{◌≡◌, ◌<◌, ◌+◌, ℕ, zero, suc, Bool, true, false, IsTrue, List, [], ◌∷◌, ◌++◌, map, length, replicate, codes, refl, ap, sym, subst, ◌∙◌, arith, length-append, below_more, lit≤}
use Rattle.std.proofs.lemmas.List.{length-replicate}
use Rattle.nj_formula.specs.declared.argument.Argument.{Argument}
use Rattle.nj_formula.specs.declared.formula.Formula.{Formula, roll-Formula, map-Formula, ind-Formula}
use Rattle.nj_formula.specs.declared.formula.Formula.TheOpen.{Formula-F}
use Rattle.nj_formula.specs.declared.formula.Formula.TheVariants as Formulas
use Rattle.nj_formula.specs.declared.formula.Formula.TheVariants.{rolls-False, rolls-Atom, rolls-Not, rolls-And, rolls-Or, rolls-Implies, rolls-All, rolls-Exists}
use Rattle.nj_formula.specs.Statement.{Statement}
use Rattle.nj_formula.specs.Meaning.{meaning}
use Rattle.nj_syntax.specs.declared.operator.Operator.{Operator}
use Rattle.nj_syntax.specs.declared.operator.Quantifier.{Quantifier}
use Rattle.nj_syntax.specs.Grammar.{priority, joined, word, quantified}
use Rattle.nj_syntax.specs.ArgumentText.{listed, argument_text}
use Rattle.nj_syntax.specs.Primed.{is_shown, with_primes, IsPrimed}
use Rattle.nj_syntax.specs.Prints.{operator_text, is_enclosed, Prints, falsity, atom, predicate, negation, operator, quantifier, parentheses}
use Rattle.nj_syntax.proofs.LengthLemmas.{room, length_shown}
use Rattle.nj_syntax.proofs.EnclosedLemmas.{least_priority, in_place}

-- the least number of primes is found, since a name that is longer than all is not shown
module _ (names : List (List ℕ)) (x : List ℕ) (body : Statement) where
  abbrev Found : Type 0
  Found = (y : List ℕ) × IsPrimed names x body y

  abbrev AllShown : ℕ → Type 0
  AllShown k = (fewer : ℕ) → fewer < k → IsTrue (is_shown (with_primes x fewer) names 1 body)

  pick : (k : ℕ) (b : Bool) → is_shown (with_primes x k) names 1 body ≡ b → AllShown k → (is_shown (with_primes x k) names 1 body ≡ true → Found) → Found
  pick k true is below later = later is
  pick k false is below later = (with_primes x k, record { primes = k; is = refl; free_of = is; least = below })

  too_long : (k : ℕ) → room names body < length x + k → is_shown (with_primes x k) names 1 body ≡ true → ⊥
  too_long k long shown =
      let primed : length (with_primes x k) ≡ length x + k = length-append x (replicate k 39) ∙ ap (λ n. length x + n) (length-replicate k 39) in
      omega (arith, primed, length_shown (with_primes x k) names 1 body shown)

  search_primes : (fuel k : ℕ) → AllShown k → room names body < length x + k + fuel → Found
  search_primes zero k below enough =
      pick k (is_shown (with_primes x k) names 1 body) refl below (λ shown. absurd (too_long k (omega arith) shown))
  search_primes (suc fuel) k below enough =
      pick k (is_shown (with_primes x k) names 1 body) refl below
      (λ shown. search_primes fuel (k + 1) (below_more (λ n. IsTrue (is_shown (with_primes x n) names 1 body)) k below shown) (omega arith))

  pub has_primed : Found
  has_primed = search_primes (room names body + 1) 0 (λ fewer less. absurd (omega arith)) (omega arith)

-- a print by itself, under any names
abbrev pub HasPrint : Formula → Type 0
HasPrint f = (names : List (List ℕ)) → (text : List ℕ) × Prints 10 names f text

placed : (p : ℕ) (names : List (List ℕ)) (f : Formula) → HasPrint f → (text : List ℕ) × Prints p names f text
placed p names f has = by_test (is_enclosed p f) refl
  where
    by_test : (b : Bool) → is_enclosed p f ≡ b → (text : List ℕ) × Prints p names f text
    by_test true over = let bare = has names in (codes "(" ++ (bare.0 ++ codes ")"), parentheses over bare.1)
    by_test false fits = let bare = has names in (bare.0, in_place fits (lit≤ tt) bare.1)

operator_prints : (op : Operator) (a b : Formula) → HasPrint a → HasPrint b → HasPrint (joined op a b)
operator_prints op a b has_a has_b names =
    let left = placed (priority op + 1) names a has_a in
    let right = placed (priority op) names b has_b in
    (left.0 ++ (operator_text op ++ right.0), operator op (least_priority op) left.1 right.1)

quantifier_prints : (q : Quantifier) (x : List ℕ) (a : Formula) → HasPrint a → HasPrint (quantified q x a)
quantifier_prints q x a has names =
    let name = has_primed names x (meaning a) in
    let body = has (name.0 ∷ names) in
    (word q ++ (codes " " ++ (name.0 ++ (codes ". " ++ body.0))), quantifier q (lit≤ tt) name.1 body.1)

atom_prints : (x : List ℕ) (args : List Argument) → HasPrint (Formulas.Atom x args)
atom_prints x [] names = (x, atom)
atom_prints x (t ∷ more) names = (x ++ (codes "(" ++ (listed (map (argument_text names) (t ∷ more)) ++ codes ")")), predicate)

negation_prints : (a : Formula) → HasPrint a → HasPrint (Formulas.Not a)
negation_prints a has names = let operand = placed 40 names a has in (codes "~" ++ operand.0, negation (lit≤ tt) operand.1)

layer_prints : (y : Formula-F ((a : Formula) × HasPrint a)) → HasPrint (roll-Formula (map-Formula ((a : Formula) × HasPrint a) Formula (λ e. e.0) y))
layer_prints Formula-F.False = subst HasPrint (sym rolls-False) (λ names. (codes "False", falsity))
layer_prints (Formula-F.Atom x args) = subst HasPrint (sym (rolls-Atom x args)) (atom_prints x args)
layer_prints (Formula-F.Not a) = subst HasPrint (sym (rolls-Not a.0)) (negation_prints a.0 a.1)
layer_prints (Formula-F.And a b) = subst HasPrint (sym (rolls-And a.0 b.0)) (operator_prints Operator.And a.0 b.0 a.1 b.1)
layer_prints (Formula-F.Or a b) = subst HasPrint (sym (rolls-Or a.0 b.0)) (operator_prints Operator.Or a.0 b.0 a.1 b.1)
layer_prints (Formula-F.Implies a b) = subst HasPrint (sym (rolls-Implies a.0 b.0)) (operator_prints Operator.Implies a.0 b.0 a.1 b.1)
layer_prints (Formula-F.All x a) = subst HasPrint (sym (rolls-All x a.0)) (quantifier_prints Quantifier.All x a.0 a.1)
layer_prints (Formula-F.Exists x a) = subst HasPrint (sym (rolls-Exists x a.0)) (quantifier_prints Quantifier.Exists x a.0 a.1)

pub has_print_under : (a : Formula) → HasPrint a
has_print_under = ind-Formula HasPrint (λ x y is. subst (λ z. HasPrint (roll-Formula z)) is (layer_prints y))

pub has_print : (a : Formula) → (text : List ℕ) × Prints 10 [] a text
has_print a = has_print_under a []
