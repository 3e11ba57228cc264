use Rattle.std.proofs.Common.{◌≡◌, take, map}
use Rattle.nj_formula.specs.Instance.{filled_argument}
use Rattle.nj_formula.proofs.instance.+filled.Given as goal

abbrev pub invariant-filled_arguments-loop-argument :
    goal.invariant-filled_arguments-loop-argument
invariant-filled_arguments-loop-argument l =
    l.filled ≡ map (filled_argument l.place l.term) (take l.argument-index l.arguments)
