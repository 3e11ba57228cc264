use Rattle.std.proofs.Common.{◌≡◌}
use Rattle.std.specs.List.{list_any}
use Rattle.nj_formula.specs.Meaning.{meaning}
use Rattle.nj_formula.specs.Free.{is_free}
use Rattle.theory_ctx.proofs.ctx.any_has_free.Given as goal

abbrev pub invariant-loop-formula : goal.invariant-loop-formula
invariant-loop-formula l =
    (goal.iterator-loop-formula).can_next l.formula-iterator × (goal.iterator-loop-formula).is_finite l.formula-iterator
    × (list_any (λ fact. is_free l.name (meaning fact.1)) l.formula-iterator ≡ list_any (λ fact. is_free l.name (meaning fact.1)) l.fn.facts)
