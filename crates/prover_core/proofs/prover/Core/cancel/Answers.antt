use Rattle.std.proofs.Common.{◌≡◌, ◌++◌, ◌∷◌, [], cond, false, ap, sym, subst, ◌∙◌, arith}
use Rattle.core_rules.specs.Standing.{has_ended}
use Rattle.prover_core.specs.States.{CoreState}
use Rattle.prover_core.proofs.EndedKept.{moved}
use Rattle.prover_core.proofs.CancelTold.{told_idle, told_cancelled}
use Rattle.prover_core.proofs.HaveTasks.{task_there, counts, not_both, well}
use Rattle.prover_core.proofs.CancelledKept.{idle_kept, cancelled_kept}
use Rattle.prover_core.proofs.prover.Core.cancel.Goals as goal

pub invariant_of-self-in-Idle : goal.invariant_of-self-in-Idle
invariant_of-self-in-Idle g c =
    let going = subst (λ (s : CoreState). has_ended s.past ≡ false) (sym c.self.view_is) c.requires.going in
    let so = told_idle _ _ _ c.self.invariant c.args.exec (sym c.cancel.ensures.answer ∙ c.in-Idle.is) in
    moved _ _ _ _ c.add.ensures.items
    (idle_kept _ _ _ c.self.invariant c.args.exec _ going so.0 so.1 c.cancel.ensures.row)

pub invariant_of-self-in-Cancelled : goal.invariant_of-self-in-Cancelled
invariant_of-self-in-Cancelled g c =
    let going = subst (λ (s : CoreState). has_ended s.past ≡ false) (sym c.self.view_is) c.requires.going in
    let so = told_cancelled _ _ _ c.self.invariant c.args.exec (sym c.cancel.ensures.answer ∙ c.in-Cancelled.is) in
    let there = task_there _ _ _ c.self.invariant c.args.exec c.tip_law.ensures so.0 so.1 in
    let counted = counts _ there.1 in
    let ok = well _ (sym c.if-is_err.ensures.value) in
    moved _ _ _ _ c.add-in-Cancelled.ensures.items
    (cancelled_kept _ _ _ c.self.invariant c.args.exec _ _ _ _ _ _ going so.0 so.1 c.cancel.ensures.row
    c.cancel_group.ensures.tasks c.cancel_group.ensures.room there.0
    (c.push.ensures.items ∙ ap (λ b. cond b (c.self.inside.cancelled.items ++ c.args.exec ∷ []) c.self.inside.cancelled.items) ok)
    (omega (arith, counted, c.cancel_group.ensures.count))
    (omega (arith, c.push.ensures.upper_bound, c.push.ensures.capacity)))

-- there is room to note it: it has a task
pub unreachable-requires : goal.unreachable-requires
unreachable-requires g c =
    let so = told_cancelled _ _ _ c.self.invariant c.args.exec (sym c.cancel.ensures.answer ∙ c.in-Cancelled.is) in
    let there = task_there _ _ _ c.self.invariant c.args.exec c.tip_law.ensures so.0 so.1 in
    let counted = counts _ there.1 in
    not_both _ (c.push.ensures.succeeds (omega (arith, counted, c.cancel_group.ensures.count, c.self.invariant.spare)))
    (sym c.is_err.ensures.value ∙ c.if-is_err.true)
