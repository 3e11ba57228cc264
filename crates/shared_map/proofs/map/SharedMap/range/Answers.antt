use Rattle.std.proofs.Common.{◌∙◌, ap}
use Rattle.std.proofs.Common.{arith}
use Rattle.std.specs.Ordering.{is_gt}
use Rattle.shared_map.specs.Cuts.{within}
use Rattle.shared_map.proofs.Lists.{filter_shorter}
use Rattle.shared_map.proofs.Range.{range_is}
use Rattle.shared_map.proofs.map.SharedMap.range.Goals as goal

pub overflow_sub-result : goal.overflow_sub-result
overflow_sub-result g c = omega (arith, filter_shorter (λ p. is_gt (g.C.Cut.place c.args.cut.now p.0)) c.self.inside.pairs)

pub returns : goal.returns
returns g c =
    range_is (g.met.C.Cut.rises c.args.cut.now) c.self.inside.pairs c.self.invariant _ _ _
    c.len.ensures c.count_before-from.ensures c.count_behind-behind.ensures
    ∙ ap (within (g.C.Cut.place c.args.cut.now)) c.self.view_is
