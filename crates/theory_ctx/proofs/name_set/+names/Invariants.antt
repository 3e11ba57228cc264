use Rattle.std.proofs.Common.{◌≡◌, drop, map}
use Rattle.theory_ctx.specs.NameSets.{with_argument, with_all}
use Rattle.theory_ctx.proofs.name_set.+names.Given as goal

abbrev pub invariant-add_arguments-loop-argument : goal.invariant-add_arguments-loop-argument
invariant-add_arguments-loop-argument l =
    with_all (map with_argument l.arguments) l.initial.set
    ≡ with_all (map with_argument (drop l.argument-index l.arguments)) l.set
