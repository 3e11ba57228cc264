use Rattle.std.proofs.Common.{ap}
use Rattle.theory_ctx.specs.Looked.{looked}
use Rattle.theory_ctx.proofs.Merges.{same_merged}
use Rattle.theory_ctx.proofs.laws.order_law.Goals as goal

pub returns : goal.returns
returns c parts others own name each more agree same =
    ap (λ facts. looked facts own name) (same_merged parts others each more agree same)
