use Rattle.std.proofs.Common.{◌≡◌}
use Rattle.std.specs.List.{list_any}
use Rattle.nj_formula.specs.declared.argument.Argument.TheVariants.{Free}
use Rattle.nj_formula.specs.FormulaInstance.{formula_instance}
use Rattle.proof_state.specs.Same.{says_same}
use Rattle.proof_state.proofs.fits.is_instance.Given as goal

abbrev pub invariant-loop-name : goal.invariant-loop-name
invariant-loop-name l =
    (goal.iterator-loop-name).can_next l.name-iterator × (goal.iterator-loop-name).is_finite l.name-iterator
    × (list_any (λ y. says_same l.shown (formula_instance (Free y) l.body)) l.name-iterator ≡ list_any (λ y. says_same l.shown (formula_instance (Free y) l.body)) l.fixed)
