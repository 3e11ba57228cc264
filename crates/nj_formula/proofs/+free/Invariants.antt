use Rattle.std.proofs.Common.{◌≡◌, drop, map}
use Rattle.std.specs.List.{list_any}
use Rattle.nj_formula.specs.Free.{is_free_in}
use Rattle.nj_formula.proofs.+free.Given as goal

abbrev pub invariant-free::any_has_free-loop-argument :
    goal.invariant-free::any_has_free-loop-argument
invariant-free::any_has_free-loop-argument l =
    list_any (λ free. free) (map (is_free_in l.name) l.arguments)
    ≡ list_any (λ free. free) (map (is_free_in l.name) (drop l.argument-index l.arguments))
