-- The text of a formula as a function (priorities as in Isabelle's mixfix annotations; this
-- project's own).
use Rattle.std.specs.Prelude.{ℕ, zero, suc, ◌+◌, nat_lt, Bool, if◌then◌else◌, List, [], ◌∷◌, ◌++◌, length, map, sum, codes}
use Rattle.nj_formula.specs.declared.argument.Argument.{Argument, fold-Argument}
use Rattle.nj_formula.specs.declared.argument.Argument.TheOpen.{Argument-F}
use Rattle.nj_formula.specs.declared.formula.Formula.{Formula, fold-Formula}
use Rattle.nj_formula.specs.declared.formula.Formula.TheOpen.{Formula-F}
use Rattle.nj_formula.specs.Statement.{Statement, falsity, atom, neg, conj, disj, implies, every, exists}
use Rattle.nj_syntax.specs.declared.operator.Operator.{Operator}
use Rattle.nj_syntax.specs.declared.operator.Quantifier.{Quantifier}
use Rattle.nj_syntax.specs.Grammar.{priority, word}
use Rattle.nj_syntax.specs.ArgumentText.{listed, argument_text}
use Rattle.nj_syntax.specs.Primed.{is_shown, with_primes}
use Rattle.nj_syntax.specs.Prints.{operator_text}

-- one layer of an argument: no name in it is longer
abbrev pub longest_layer : List (List ℕ) → Argument-F ℕ → ℕ
longest_layer names (Argument-F.Free x) = length x
longest_layer names (Argument-F.Bound place) = sum (map length names)
longest_layer names (Argument-F.Apply f parts) = sum parts

-- no name in an argument is longer, under these names
abbrev pub longest_in : List (List ℕ) → Argument → ℕ
longest_in names = fold-Argument ℕ (longest_layer names)

-- no name that is free in what is printed under these names is longer
abbrev pub longest : List (List ℕ) → Statement → ℕ
longest names falsity = 0
longest names (atom predicate arguments) = sum (map (longest_in names) arguments)
longest names (neg a) = longest names a
longest names (conj a b) = longest names a + longest names b
longest names (disj a b) = longest names a + longest names b
longest names (implies a b) = longest names a + longest names b
longest names (every body) = longest names body
longest names (exists body) = longest names body

-- the least number from here on, among so many, that does not pass the test
abbrev pub least_failing : (ℕ → Bool) → ℕ → ℕ → ℕ
least_failing test from zero = from
least_failing test from (suc more) = if test from then least_failing test (from + 1) more else from

-- the name of a quantifier with the least number of `'` with which it is not free in the body
abbrev pub primed : List (List ℕ) → List ℕ → Statement → List ℕ
primed names x body = with_primes x
    (least_failing (λ k. is_shown (with_primes x k) names 1 body) 0 (longest names body + 1))

-- what a formula says, and its text in a place for a priority, under printed names
pub record Spoken : Type 0 where
  pub says : Statement
  pub text : ℕ → List (List ℕ) → List ℕ

-- in parentheses where it binds too weakly for the place
abbrev pub enclosed : ℕ → ℕ → List ℕ → List ℕ
enclosed own place text = if nat_lt own place then codes "(" ++ (text ++ codes ")") else text

-- an atom
abbrev pub atom_text : List (List ℕ) → List ℕ → List Argument → List ℕ
atom_text names x [] = x
atom_text names x (t ∷ more) =
    x ++ (codes "(" ++ (listed (map (argument_text names) (t ∷ more)) ++ codes ")"))

-- two operands; the left one binds more strongly
abbrev pub operator_between : Operator → Spoken → Spoken → ℕ → List (List ℕ) → List ℕ
operator_between op a b place names = enclosed (priority op) place
    (a.text (priority op + 1) names ++ (operator_text op ++ b.text (priority op) names))

-- a quantifier with its printed name
abbrev pub binding : Quantifier → List ℕ → Spoken → ℕ → List (List ℕ) → List ℕ
binding q y body place names = enclosed 10 place
    (word q ++ (codes " " ++ (y ++ (codes ". " ++ body.text 10 (y ∷ names)))))

-- the same, the name primed until it is none of those that it would catch
abbrev pub quantifier_text : Quantifier → List ℕ → Spoken → ℕ → List (List ℕ) → List ℕ
quantifier_text q x body place names = binding q (primed names x body.says) body place names

-- one layer, with its parts spoken
abbrev pub spoken_layer : Formula-F Spoken → Spoken
spoken_layer Formula-F.False = record { says = falsity; text = λ p names. codes "False" }
spoken_layer (Formula-F.Atom x arguments) =
    record { says = atom x arguments; text = λ p names. atom_text names x arguments }
spoken_layer (Formula-F.Not a) =
    record { says = neg a.says; text = λ p names. enclosed 40 p (codes "~" ++ a.text 40 names) }
spoken_layer (Formula-F.And a b) =
    record { says = conj a.says b.says; text = operator_between Operator.And a b }
spoken_layer (Formula-F.Or a b) =
    record { says = disj a.says b.says; text = operator_between Operator.Or a b }
spoken_layer (Formula-F.Implies a b) =
    record { says = implies a.says b.says; text = operator_between Operator.Implies a b }
spoken_layer (Formula-F.All x a) =
    record { says = every a.says; text = quantifier_text Quantifier.All x a }
spoken_layer (Formula-F.Exists x a) =
    record { says = exists a.says; text = quantifier_text Quantifier.Exists x a }

-- a formula's text in a place for a priority, under printed names
abbrev pub text_in : ℕ → List (List ℕ) → Formula → List ℕ
text_in place names f = (fold-Formula Spoken spoken_layer f).text place names

-- a formula's text
abbrev pub formula_text : Formula → List ℕ
formula_text f = text_in 10 [] f
