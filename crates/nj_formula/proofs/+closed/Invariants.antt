use Rattle.std.proofs.Common.{◌≡◌, drop, map}
use Rattle.std.specs.List.{list_all}
use Rattle.nj_formula.specs.Closed.{is_closed}
use Rattle.nj_formula.proofs.+closed.Given as goal

abbrev pub invariant-obj_term::all_closed-loop-argument :
    goal.invariant-obj_term::all_closed-loop-argument
invariant-obj_term::all_closed-loop-argument l =
    list_all (λ closed. closed) (map is_closed l.arguments)
    ≡ list_all (λ closed. closed) (map is_closed (drop l.argument-index l.arguments))
