use Rattle.std.proofs.Common.{◌≡◌, [], take}
use Rattle.std.specs.Prelude.{fold}
use Rattle.shared_map.specs.Changes.{united}
use Rattle.theory_ctx.specs.Order.{by_name}
use Rattle.theory_ctx.proofs.ctx.Ctx.merge.Given as goal

abbrev pub invariant-loop-part : goal.invariant-loop-part
invariant-loop-part l = l.ctx ≡ fold (λ facts part. united by_name facts part.now) [] (take l.part-index l.parts)
