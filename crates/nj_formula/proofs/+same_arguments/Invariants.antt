use Rattle.std.proofs.Common.{◌≡◌, take}
use Rattle.nj_formula.proofs.+same_arguments.Given as goal

abbrev pub invariant-same::same_arguments-loop-i :
    goal.invariant-same::same_arguments-loop-i
invariant-same::same_arguments-loop-i l = take l.i l.xs ≡ take l.i l.ys
