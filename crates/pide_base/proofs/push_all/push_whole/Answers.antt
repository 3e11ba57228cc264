-- What a push took joins what was pushed before.
use Rattle.std.proofs.Common.{arith}
use Rattle.pide_base.proofs.Known.{pushed_more}
use Rattle.pide_base.proofs.push_all.push_whole.Goals as goal

pub pushing-preserved : goal.pushing-preserved
pushing-preserved g c =
    let before = c.pushing.invariant.0 in
    (pushed_more _ _ _ _ before.0 _ _ before.1 before.2 c.in-Took.ensures.bytes.2, omega arith)
