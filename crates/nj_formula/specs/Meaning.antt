-- What a formula says; two formulas are equal up to bound names where they say the same.
use Rattle.nj_formula.specs.Statement.{Statement, falsity, atom, neg, conj, disj, implies}
use Rattle.nj_formula.specs.Statement.{every, exists}
use Rattle.nj_formula.specs.declared.formula.Formula.{Formula, fold-Formula}
use Rattle.nj_formula.specs.declared.formula.Formula.TheOpen.{Formula-F}

-- one layer, with what each part says in its place
abbrev pub layer_meaning : Formula-F Statement → Statement
layer_meaning Formula-F.False = falsity
layer_meaning (Formula-F.Atom predicate arguments) = atom predicate arguments
layer_meaning (Formula-F.Not a) = neg a
layer_meaning (Formula-F.And a b) = conj a b
layer_meaning (Formula-F.Or a b) = disj a b
layer_meaning (Formula-F.Implies a b) = implies a b
layer_meaning (Formula-F.All name body) = every body
layer_meaning (Formula-F.Exists name body) = exists body

-- what a formula says
abbrev pub meaning : Formula → Statement
meaning = fold-Formula Statement layer_meaning
