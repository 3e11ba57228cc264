use Rattle.std.proofs.Common.{◌≡◌, drop, map}
use Rattle.std.specs.List.{list_any}
use Rattle.nj_syntax.specs.Primed.{is_shown_in}
use Rattle.nj_syntax.proofs.names.+shown.Given as goal

abbrev pub invariant-any_shown-loop-argument : goal.invariant-any_shown-loop-argument
invariant-any_shown-loop-argument l =
    list_any (λ shown. shown) (map (is_shown_in l.name l.names.items l.depth) l.arguments)
    ≡ list_any (λ shown. shown) (map (is_shown_in l.name l.names.items l.depth) (drop l.argument-index l.arguments))
