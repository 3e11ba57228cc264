use Rattle.std.proofs.Common.{◌-◌, ◌<◌, ◌≤◌, sym, subst, arith}
use Rattle.pide_base.specs.declared.part.Part.{Part}
use Rattle.core_tables.specs.Tasks.{standing}
use Rattle.core_tables.specs.Ready.{IsReadyPart}
use Rattle.prover_core.proofs.settling.ready_below.Goals as goal

pub returns-then-number-behind-clause-some : goal.returns-then-number-behind-clause-some
returns-then-number-behind-clause-some c =
    let at = subst (λ (p : Part). IsReadyPart (standing c.args.queue.now) p) (sym c.index-parts-end.is)
    (c.ready-parts.ensures.ready.sound (c.classes.end - 1) c.index-parts-end.result
    (omega (arith, c.classes-test.true, c.classes.invariant.within))) in
    let lt : c.index-parts-end.result.exec < c.args.behind = omega (arith, c.if-number-behind.true, c.number.ensures.value) in
    subst (λ (p : Part). (p.exec < c.args.behind) × IsReadyPart (standing c.args.queue.now) p) (sym c.same.ensures) (lt, at)

pub returns-clause-none : goal.returns-clause-none
returns-clause-none c = λ part is.
    let there = c.ready-parts.ensures.ready.complete part is in
    subst (λ (p : Part). c.args.behind ≤ p.exec) there.2
    (c.classes.invariant.newer there.0 part (omega (arith, c.classes-test.false)) there.1)
