-- The formulas that a text can say (this project's own).
use Rattle.std.specs.Prelude.{ℕ, ◌+◌, nat_lt, Bool, true, false, not, ◌&&◌, IsTrue, [], ◌∷◌, map}
use Rattle.std.specs.List.{list_all}
use Rattle.nj_formula.specs.declared.argument.Argument.{Argument, fold-Argument}
use Rattle.nj_formula.specs.declared.argument.Argument.TheOpen.{Argument-F}
use Rattle.nj_formula.specs.declared.formula.Formula.{Formula, fold-Formula}
use Rattle.nj_formula.specs.declared.formula.Formula.TheOpen.{Formula-F}
use Rattle.text_words.specs.Identifier.{is_identifier}
use Rattle.nj_syntax.specs.Grammar.{is_word}

-- one layer of an argument: each place is one of the n bound ones, and a function has an argument
abbrev pub spellable_layer : ℕ → Argument-F Bool → Bool
spellable_layer n (Argument-F.Free x) = is_identifier x
spellable_layer n (Argument-F.Bound place) = nat_lt place n
spellable_layer n (Argument-F.Apply function []) = false
spellable_layer n (Argument-F.Apply function (first ∷ more)) =
    is_identifier function && list_all (λ is. is) (first ∷ more)

-- each place in the argument is one of the n bound ones, and its names are identifiers
abbrev pub is_spellable_argument : ℕ → Argument → Bool
is_spellable_argument n = fold-Argument Bool (spellable_layer n)

-- one layer of a formula: its names are identifiers, and an atom is none of the words `False`,
-- `ALL`, `EX`
abbrev pub formula_layer : Formula-F (ℕ → Bool) → ℕ → Bool
formula_layer Formula-F.False n = true
formula_layer (Formula-F.Atom predicate arguments) n =
    is_identifier predicate && not (is_word predicate)
    && list_all (λ is. is) (map (is_spellable_argument n) arguments)
formula_layer (Formula-F.Not a) n = a n
formula_layer (Formula-F.And a b) n = a n && b n
formula_layer (Formula-F.Or a b) n = a n && b n
formula_layer (Formula-F.Implies a b) n = a n && b n
formula_layer (Formula-F.All name body) n = is_identifier name && body (n + 1)
formula_layer (Formula-F.Exists name body) n = is_identifier name && body (n + 1)

-- the same of a formula under n quantifiers
abbrev pub is_spellable : Formula → ℕ → Bool
is_spellable = fold-Formula (ℕ → Bool) formula_layer

-- a formula that a text can say, by itself
abbrev pub IsSpellable : Formula → Type 0
IsSpellable a = IsTrue (is_spellable a 0)
