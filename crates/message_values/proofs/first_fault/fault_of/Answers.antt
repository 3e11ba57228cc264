-- One chunk more is judged.
use Rattle.std.proofs.Common.{rules, arith}
use Rattle.message_values.proofs.Faults.{next_chunk}
use Rattle.message_values.proofs.first_fault.fault_of.Goals as goal

pub loop-rest-preserved : goal.loop-rest-preserved
loop-rest-preserved c =
    let inv = c.loop-rest.invariant in
    let first = c.first_chunk.ensures in (
      search rules,
      c.in-Ok.ensures.small,
      λ more. grind (arith, inv.2, first.parted more, first.within),
      grind (arith, inv.2, first.within),
      next_chunk _ _ _ _ _ _ _ _ first inv.4 c.in-Ok.ensures.told.0 c.in-Ok.ensures.told.1,
    )
