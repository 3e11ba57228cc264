-- At the end nothing is left of the parts, so what is shown counts as what they report.
use Rattle.std.proofs.Common.{◌≡◌, ◌+◌, List, [], map, drop, subst, arith}
use Rattle.std.specs.List.{sum_by}
use Rattle.std.proofs.lemmas.List.{drop_all}
use Rattle.snapshots.specs.declared.part.AssignedPart.{AssignedPart}
use Rattle.snapshots.specs.Seen.{seen}
use Rattle.snapshots.specs.Converted.{left_by}
use Rattle.snapshots.specs.Gathered.{gathered}
use Rattle.snapshots.proofs.gather.gather.Goals as goal

pub returns : goal.returns
returns c =
    let edits = c.args.edits.now in
    let parts = c.args.parts.now in
    c.put_in_order.ensures (left_by edits (gathered parts)) (λ f.
    let P : List AssignedPart → Type 0 = λ rest. sum_by f (map seen c.loop-part.reports.items) + sum_by f (left_by edits (gathered rest))
    ≡ sum_by f (left_by edits (gathered parts)) in
    let gone : drop c.loop-part.part-index parts ≡ [] = drop_all c.loop-part.part-index parts (omega arith) in
    let all = subst P gone (c.loop-part.invariant.counted f) in
    omega (arith, c.in_ok-order_last.ensures f, all))
