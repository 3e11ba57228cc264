use Rattle.std.proofs.Common.{◌≡◌, ◌-◌, length}
use Rattle.std.specs.Prelude.{drop}
use Rattle.theory_ctx.specs.Locals.{joined}
use Rattle.theory_ctx.proofs.scope_locals.ScopeLocalsIterator.next.Given as goal

abbrev pub invariant-behind : goal.invariant-behind
invariant-behind l =
    drop l.self-inside.place (joined (drop l.self-inside.block l.self-inside.blocks.now)) ≡ l.fn.self

abbrev pub decreases-behind : goal.decreases-behind
decreases-behind l = length l.self-inside.blocks.now - l.self-inside.block
