-- The last worker of those that are left was joined.
use Rattle.std.proofs.Common.{sym, subst, vec_len, ◌∙◌, rules}
use Rattle.hist_lock.specs.Callers.{HasJoinedUpTo}
use Rattle.hist_lock.specs.Passes.{view}
use Rattle.hist_lock.proofs.KnownJoinings.{keeps_joined, joined_from}
use Rattle.worker_loop.specs.Crew.{HoldNothing}
use Rattle.worker_loop.proofs.KnownGathered.{gathered_then, nothing_from, prefix_then}
use Rattle.worker_loop.proofs.gathering.gather_idle.Goals as goal

pub gathering-preserved : goal.gathering-preserved
gathering-preserved g c =
    let says = g.W.Work.says in let old = c.gathering.invariant in let rest = c.join.ensures.rest in
    let first = view c.args.first.now in let v = view c.gathering.first in let u = view c.in-Some.pass in let w = view c.join.new.pass in
    let low = vec_len c.last_worker.new.passes in let high = vec_len c.args.passes in
    let less = c.in-Some.ensures.length in let back = c.in-Some.ensures.worker in
    let is = back.0.1 ∙ sym less in (
      search rules,
      prefix_then first.seen v.seen w.seen old.1 c.join.ensures.seen.first,
      gathered_then first v u w old.2 rest,
      λ k h. keeps_joined v u w rest k (old.3 k h),
      back.1,
      joined_from v u w rest low high is (subst (λ n. HasJoinedUpTo n high v) (sym less) old.5),
      nothing_from v u w rest says low high is back.0.2 (subst (λ n. HoldNothing says n high v) (sym less) old.6),
    )
