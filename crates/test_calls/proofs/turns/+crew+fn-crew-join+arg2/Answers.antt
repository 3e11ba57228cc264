use Rattle.std.proofs.Common.{◌+◌, sym, ap, ◌∙◌, subst, arith}
use Rattle.std.specs.List.{Contains}
use Rattle.hist_lock.specs.Callers.{callers}
use Rattle.hist_lock.specs.Passes.{view}
use Rattle.hist_lock.proofs.KnownJoinings.{keeps_joined, joined_from}
use Rattle.test_calls.proofs.turns.+crew+fn-crew-join+arg2.Goals as goal

-- whom the first pass had joined stays joined through the split, the work of the others and the join
pub returns-clause-kept : goal.returns-clause-kept
returns-clause-kept g t c k h = let a = c.join-first.ensures.first in
    keeps_joined (view c.join-first.result.0) (view c.join-first.result.1) (view c.join.new.pass) c.join.ensures.rest k
    (a.1.1.0 k (subst (λ v. Contains (callers v.joined) k) (sym c.split-next.ensures.parent) h))

-- the others were joined before, and the caller of the split pass is joined last
pub returns-clause-joined : goal.returns-clause-joined
returns-clause-joined g t c = let a = c.join-first.ensures.first in let b = c.join-first.ensures.second in let some_more = c.if-more-eq0.false in let made = c.requires.first.1 in
    let by = ap (λ v. v.caller) b.1 ∙ (ap (λ v. v.caller) c.split-next.ensures.child ∙ ap (λ n. n + 1) made) in
    joined_from (view c.join-first.result.0) (view c.join-first.result.1) (view c.join.new.pass) c.join.ensures.rest c.args.made (c.args.made + c.args.more) by (λ k low high. a.1.1.1 k low (omega arith))
