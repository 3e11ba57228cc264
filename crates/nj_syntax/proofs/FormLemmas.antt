-- What formulas with an operator or a quantifier say, and when a text can say them.
use Rattle.std.proofs.Common.{◌≡◌, ℕ, ◌+◌, ◌&&◌, ◌||◌, not, List, map, refl, ap}
use Rattle.std.specs.List.{list_all}
use Rattle.nj_formula.specs.declared.argument.Argument.{Argument}
use Rattle.nj_formula.specs.declared.formula.Formula.{Formula}
use Rattle.nj_formula.specs.declared.formula.Formula.TheVariants as Formulas
use Rattle.nj_formula.specs.Statement.{Statement, conj, disj, implies, every, exists}
use Rattle.nj_formula.specs.Meaning.{meaning}
use Rattle.nj_formula.proofs.KnownMeaning.{meaning-And, meaning-Or, meaning-Implies, meaning-All, meaning-Exists}
use Rattle.nj_syntax.specs.declared.operator.Operator.{Operator}
use Rattle.nj_syntax.specs.declared.operator.Quantifier.{Quantifier}
use Rattle.nj_syntax.specs.Grammar.{joined, quantified, is_word}
use Rattle.nj_syntax.specs.Primed.{is_shown}
use Rattle.text_words.specs.Identifier.{is_identifier}
use Rattle.nj_syntax.specs.Spellable.{is_spellable_argument, formula_layer, is_spellable}
use Rattle.nj_formula.proofs.KnownFormulas.{fold-Atom, fold-Not, fold-And, fold-Or, fold-Implies, fold-All, fold-Exists}

abbrev pub join : Operator → Statement → Statement → Statement
join Operator.And s t = conj s t
join Operator.Or s t = disj s t
join Operator.Implies s t = implies s t

abbrev pub bind : Quantifier → Statement → Statement
bind Quantifier.All s = every s
bind Quantifier.Exists s = exists s

pub meaning-joined : (op : Operator) (a b : Formula) → meaning (joined op a b) ≡ join op (meaning a) (meaning b)
meaning-joined Operator.And a b = meaning-And a b
meaning-joined Operator.Or a b = meaning-Or a b
meaning-joined Operator.Implies a b = meaning-Implies a b

pub meaning-quantified : (q : Quantifier) (x : List ℕ) (a : Formula) → meaning (quantified q x a) ≡ bind q (meaning a)
meaning-quantified Quantifier.All x a = meaning-All x a
meaning-quantified Quantifier.Exists x a = meaning-Exists x a

pub is_shown-join : (op : Operator) (y : List ℕ) (names : List (List ℕ)) (d : ℕ) (s t : Statement) → is_shown y names d (join op s t) ≡ (is_shown y names d s || is_shown y names d t)
is_shown-join Operator.And y names d s t = refl
is_shown-join Operator.Or y names d s t = refl
is_shown-join Operator.Implies y names d s t = refl

pub is_shown-bind : (q : Quantifier) (y : List ℕ) (names : List (List ℕ)) (d : ℕ) (s : Statement) → is_shown y names d (bind q s) ≡ is_shown y names (d + 1) s
is_shown-bind Quantifier.All y names d s = refl
is_shown-bind Quantifier.Exists y names d s = refl

pub spellable-Atom : (x : List ℕ) (args : List Argument) (n : ℕ) → is_spellable (Formulas.Atom x args) n
    ≡ (is_identifier x && not (is_word x) && list_all (λ is. is) (map (is_spellable_argument n) args))
spellable-Atom x args n = ap (λ g. g n) (fold-Atom formula_layer x args)

pub spellable-Not : (a : Formula) (n : ℕ) → is_spellable (Formulas.Not a) n ≡ is_spellable a n
spellable-Not a n = ap (λ g. g n) (fold-Not formula_layer a)

pub spellable-joined : (op : Operator) (a b : Formula) (n : ℕ) → is_spellable (joined op a b) n ≡ (is_spellable a n && is_spellable b n)
spellable-joined Operator.And a b n = ap (λ g. g n) (fold-And formula_layer a b)
spellable-joined Operator.Or a b n = ap (λ g. g n) (fold-Or formula_layer a b)
spellable-joined Operator.Implies a b n = ap (λ g. g n) (fold-Implies formula_layer a b)

pub spellable-quantified : (q : Quantifier) (x : List ℕ) (a : Formula) (n : ℕ) → is_spellable (quantified q x a) n ≡ (is_identifier x && is_spellable a (n + 1))
spellable-quantified Quantifier.All x a n = ap (λ g. g n) (fold-All formula_layer x a)
spellable-quantified Quantifier.Exists x a n = ap (λ g. g n) (fold-Exists formula_layer x a)
