use Rattle.std.proofs.Common.{◌≡◌}
use Rattle.theory_ctx.specs.Locals.{first_named, joined}
use Rattle.theory_ctx.proofs.scope.first_named.Given as goal

abbrev pub invariant-loop-locals : goal.invariant-loop-locals
invariant-loop-locals l =
    (goal.iterator-loop-locals).can_next l.locals-iterator × (goal.iterator-loop-locals).is_finite l.locals-iterator
    × (first_named l.name (joined l.locals-iterator) ≡ first_named l.name (joined l.blocks))
