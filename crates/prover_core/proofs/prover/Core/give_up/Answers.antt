use Rattle.std.proofs.Common.{◌≡◌, Some, sym, ap, subst, ◌∙◌, refl, arith}
use Rattle.pide_base.specs.declared.part.Part.{Part}
use Rattle.core_rules.specs.Doc.{doc}
use Rattle.core_rules.specs.Ready.{is_wanted}
use Rattle.core_rules.specs.Standing.{held}
use Rattle.prover_core.specs.States.{CoreState}
use Rattle.prover_core.proofs.EndedKept.{moved}
use Rattle.prover_core.proofs.TipLive.{laws_of}
use Rattle.prover_core.proofs.HeldTasks.{there_wanted, gone_unwanted}
use Rattle.prover_core.proofs.DroppedKept.{dropped_kept}
use Rattle.prover_core.proofs.prover.Core.give_up.Goals as goal

pub returns-then-is_present-clause-given_up : goal.returns-then-is_present-clause-given_up
returns-then-is_present-clause-given_up g c =
    let holds = subst (λ (s : CoreState). held s.past c.args.who ≡ Some c.args.job.part) (sym c.self.view_is) c.requires.holds
    ∙ ap (λ (q : Part). Some q) (sym c.part-exec.ensures) in
    let laws = laws_of _ _ _ c.self.invariant c.tip_law.ensures c.holders_law.ensures.told in
    let wanted = there_wanted _ _ _ c.self.invariant laws c.args.who c.part-exec.result holds (sym c.is_present.ensures ∙ c.if-is_present.true) in
    let P = λ (s : CoreState). is_wanted (doc g.L.Language.lang s.past) c.part-exec.result.exec in
    (sym (ap P c.self.view_is ∙ ap (λ (q : Part). is_wanted (doc g.L.Language.lang c.args.self.now.past) q.exec) c.part-exec.ensures) ∙ wanted, refl, refl)

pub invariant_of-self : goal.invariant_of-self
invariant_of-self g c =
    let holds = subst (λ (s : CoreState). held s.past c.args.who ≡ Some c.args.job.part) (sym c.self.view_is) c.requires.holds
    ∙ ap (λ (q : Part). Some q) (sym c.part-exec.ensures) in
    let laws = laws_of _ _ _ c.self.invariant c.tip_law.ensures c.holders_law.ensures.told in
    let unwanted = gone_unwanted _ _ _ c.self.invariant laws c.args.who c.part-exec.result holds (sym c.if-is_present.ensures) in
    moved _ _ _ _ c.add.ensures.items
    (dropped_kept _ _ _ c.self.invariant laws c.args.who c.part-exec.result holds unwanted _ _ c.take_out.ensures.things
    (omega (arith, c.take_out.ensures.len)))
