-- For want of memory the part is still held.
use Rattle.std.proofs.Common.{Some, Bool, subst, ◌∙◌}
use Rattle.hist_lock.specs.Passes.{view}
use Rattle.worker_loop.specs.Answers.{LookedSo}
use Rattle.worker_loop.proofs.KnownRounds.{stands}
use Rattle.worker_loop.proofs.carry.carry_out.Goals as goal

pub returns-then-ended-clause-round : goal.returns-then-ended-clause-round
returns-then-ended-clause-round g c =
    let says = g.W.Work.says in let held = Some (g.W.Work.part_of c.args.job) in
    let looked = subst (λ (b : Bool). LookedSo says (view c.run_once.new.pass) b (view c.ended.new.pass)) c.if-ended.true c.ended.ensures.looked in (
      (
        held,
        stands says (view c.args.pass.now) (view c.ended.new.pass) held
            (looked.0.1 ∙ (c.in-NoMemory.ensures.attempted.0.1 ∙ c.runs.invariant.4.1)),
      ),
      looked.1,
    )
