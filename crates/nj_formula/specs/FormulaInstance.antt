-- The instance of a formula itself: each name beside a quantifier stays as it is written.
use Rattle.std.specs.Prelude.{ℕ, ◌+◌, map}
use Rattle.nj_formula.specs.declared.argument.Argument.{Argument}
use Rattle.nj_formula.specs.declared.formula.Formula.{Formula, fold-Formula}
use Rattle.nj_formula.specs.declared.formula.Formula.TheOpen.{Formula-F}
use Rattle.nj_formula.specs.declared.formula.Formula.TheVariants.{False, Atom, Not, And, Or}
use Rattle.nj_formula.specs.declared.formula.Formula.TheVariants.{Implies, All, Exists}
use Rattle.nj_formula.specs.Instance.{filled_argument}

-- one layer, with each part as a function of the place to fill in it
abbrev pub formula_layer : Argument → Formula-F (ℕ → Formula) → ℕ → Formula
formula_layer term Formula-F.False place = False
formula_layer term (Formula-F.Atom predicate arguments) place =
    Atom predicate (map (filled_argument place term) arguments)
formula_layer term (Formula-F.Not a) place = Not (a place)
formula_layer term (Formula-F.And a b) place = And (a place) (b place)
formula_layer term (Formula-F.Or a b) place = Or (a place) (b place)
formula_layer term (Formula-F.Implies a b) place = Implies (a place) (b place)
formula_layer term (Formula-F.All name body) place = All name (body (place + 1))
formula_layer term (Formula-F.Exists name body) place = Exists name (body (place + 1))

-- the formula with the term in the place, whose number rises by one under each quantifier
abbrev pub filled_formula : Argument → Formula → ℕ → Formula
filled_formula term = fold-Formula (ℕ → Formula) (formula_layer term)

-- P[t] as a formula, for the body P of a quantifier
abbrev pub formula_instance : Argument → Formula → Formula
formula_instance term body = filled_formula term body 0
