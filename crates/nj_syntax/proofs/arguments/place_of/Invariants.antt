use Rattle.std.proofs.Common.{◌≡◌, ◌≤◌, ◌+◌, reverse, length, option_map}
use Rattle.nj_syntax.specs.Terms.{binder_place}
use Rattle.nj_syntax.specs.Reduced.{bound_names}
use Rattle.nj_syntax.proofs.arguments.place_of.Given as goal

abbrev pub invariant-outward : goal.invariant-outward
invariant-outward l =
    (option_map (λ n. n + l.inner) (binder_place (bound_names (reverse l.rest)) l.name) ≡ binder_place (bound_names (reverse l.fn.pending)) l.fn.name)
    × (l.inner + length l.rest ≤ length l.fn.pending)

abbrev pub decreases-outward : goal.decreases-outward
decreases-outward l = length l.rest
