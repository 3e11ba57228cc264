use Rattle.std.proofs.Common.{◌≡◌, ◌++◌, ◌∷◌, length, map, drop}
use Rattle.nj_kernel.specs.Keys.{joined_keys, argument_key}
use Rattle.nj_kernel.proofs.key.+argument_keys.Given as goal

abbrev pub invariant-put_arguments-loop-argument : goal.invariant-put_arguments-loop-argument
invariant-put_arguments-loop-argument l =
    l.to ++ joined_keys (map argument_key (drop l.argument-index l.arguments))
    ≡ l.fn.to ++ length (map argument_key l.arguments) ∷ joined_keys (map argument_key l.arguments)
