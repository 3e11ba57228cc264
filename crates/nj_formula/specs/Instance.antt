-- The instance of a quantifier's body at a term (de Bruijn 1972, for terms with no bound place).
use Rattle.std.specs.Prelude.{ℕ, ◌+◌, ◌==◌, if◌then◌else◌, map}
use Rattle.nj_formula.specs.declared.argument.Argument.{Argument, fold-Argument}
use Rattle.nj_formula.specs.declared.argument.Argument.TheVariants.{Free, Bound, Apply}
use Rattle.nj_formula.specs.declared.argument.Argument.TheOpen.{Argument-F}
use Rattle.nj_formula.specs.Statement.{Statement, falsity, atom, neg, conj, disj, implies}
use Rattle.nj_formula.specs.Statement.{every, exists}

-- one layer, with each argument already filled
abbrev pub filled_layer : ℕ → Argument → Argument-F Argument → Argument
filled_layer place term (Argument-F.Free x) = Free x
filled_layer place term (Argument-F.Bound other) = if other == place then term else Bound other
filled_layer place term (Argument-F.Apply function arguments) = Apply function arguments

-- the argument with the term in the place
abbrev pub filled_argument : ℕ → Argument → Argument → Argument
filled_argument place term = fold-Argument Argument (filled_layer place term)

-- the statement with the term in the place, whose number rises by one under each quantifier
abbrev pub filled : ℕ → Argument → Statement → Statement
filled place term falsity = falsity
filled place term (atom predicate arguments) =
    atom predicate (map (filled_argument place term) arguments)
filled place term (neg a) = neg (filled place term a)
filled place term (conj a b) = conj (filled place term a) (filled place term b)
filled place term (disj a b) = disj (filled place term a) (filled place term b)
filled place term (implies a b) = implies (filled place term a) (filled place term b)
filled place term (every body) = every (filled (place + 1) term body)
filled place term (exists body) = exists (filled (place + 1) term body)

-- P[t], for the body P of a quantifier
abbrev pub instance : Argument → Statement → Statement
instance = filled 0
