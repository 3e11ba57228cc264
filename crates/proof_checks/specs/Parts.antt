-- The parts of a rule.
use Rattle.std.specs.Prelude.{ℕ, List, Some, None}
use Rattle.nj_formula.specs.declared.formula.Formula.{Formula}
use Rattle.proof_terms.specs.declared.term.Term.{Term}
use Rattle.proof_checks.specs.declared.step.Part.{Part}

-- the term is to show the goal
abbrev pub part : Term → Formula → Part
part t goal = record { term = t; goal = goal; own = None }

-- the same, where the formula is assumed under this name
abbrev pub under : List ℕ → Formula → Term → Formula → Part
under x a t goal = record { term = t; goal = goal; own = Some (record { name = x; formula = a }) }
