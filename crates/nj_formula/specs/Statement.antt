-- What a formula says: a first-order formula without the names of its bound places (de Bruijn
-- 1972). A place that nothing binds is a constant of its own, known by its number.
use Rattle.std.specs.Prelude.{ℕ, List}
use Rattle.nj_formula.specs.declared.argument.Argument.{Argument}

-- a first-order formula up to bound names
pub data Statement : Type 0 where
  falsity : Statement
  -- a predicate of its arguments
  atom : List ℕ → List Argument → Statement
  neg : Statement → Statement
  conj : Statement → Statement → Statement
  disj : Statement → Statement → Statement
  implies : Statement → Statement → Statement
  -- the body, in which the place 0 is what the quantifier binds
  every : Statement → Statement
  exists : Statement → Statement
