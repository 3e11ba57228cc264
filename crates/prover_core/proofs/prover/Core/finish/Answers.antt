use Rattle.std.proofs.Common.{◌≡◌, true, ◌∷◌, Some, sym, ap, subst, ◌∙◌, arith, rules}
use Rattle.std.specs.Prelude.{is_some}
use Rattle.pide_base.specs.declared.part.Part.{Part}
use Rattle.core_rules.specs.declared.event.Event.TheVariants.{Finished}
use Rattle.core_rules.specs.Ready.{is_wanted}
use Rattle.core_rules.specs.Doc.{doc}
use Rattle.core_rules.specs.Standing.{held}
use Rattle.core_jobs.specs.Fits.{IsDoneOf}
use Rattle.prover_core.specs.States.{CoreState}
use Rattle.prover_core.proofs.EndedKept.{moved}
use Rattle.prover_core.proofs.TipLive.{laws_of}
use Rattle.prover_core.proofs.HeldTasks.{counted, wanted_held, there_wanted, gone_unwanted}
use Rattle.prover_core.proofs.DroppedKept.{dropped_kept}
use Rattle.prover_core.proofs.FinishKept.{is_taken_in, finish_kept}
use Rattle.prover_core.proofs.KnownResults.{on_ok}
use Rattle.prover_core.proofs.prover.Core.finish.Goals as goal

pub follow-requires-clause-held : goal.follow-requires-clause-held
follow-requires-clause-held g c =
    let holds = subst (λ (s : CoreState). held s.past c.args.who ≡ Some c.args.done.part) (sym c.self.view_is) c.requires.holds
    ∙ ap (λ (q : Part). Some q) (sym c.same-exec.ensures) in
    let laws = laws_of _ _ _ c.self.invariant c.tip_law.ensures c.holders_law.ensures.told in
    let wanted = there_wanted _ _ _ c.self.invariant laws c.args.who c.same-exec.result holds (sym c.if-not-is_present.ensures) in
    wanted_held _ _ _ c.self.invariant laws c.args.who c.same-exec.result holds wanted

pub follow-requires-clause-room : goal.follow-requires-clause-room
follow-requires-clause-room g c =
    let holds = subst (λ (s : CoreState). held s.past c.args.who ≡ Some c.args.done.part) (sym c.self.view_is) c.requires.holds in
    let one = counted _ _ (c.self.invariant.holders c.args.who ∙ holds) in
    omega (arith, one, c.take_out.ensures.len, c.self.invariant.room)

pub invariant_of-self : goal.invariant_of-self
invariant_of-self g c =
    let holds = subst (λ (s : CoreState). held s.past c.args.who ≡ Some c.args.done.part) (sym c.self.view_is) c.requires.holds
    ∙ ap (λ (q : Part). Some q) (sym c.same-exec.ensures) in
    let laws = laws_of _ _ _ c.self.invariant c.tip_law.ensures c.holders_law.ensures.told in
    let unwanted = gone_unwanted _ _ _ c.self.invariant laws c.args.who c.same-exec.result holds (sym c.if-not-is_present.ensures) in
    moved _ _ _ _ c.add.ensures.items
    (dropped_kept _ _ _ c.self.invariant laws c.args.who c.same-exec.result holds unwanted _ _ c.take_out.ensures.things
    (omega (arith, c.take_out.ensures.len)))

pub unreachable-requires : goal.unreachable-requires
unreachable-requires g c =
    let holds = subst (λ (s : CoreState). held s.past c.args.who ≡ Some c.args.done.part) (sym c.self.view_is) c.requires.holds
    ∙ ap (λ (q : Part). Some q) (sym c.same-exec.ensures) in
    let laws = laws_of _ _ _ c.self.invariant c.tip_law.ensures c.holders_law.ensures.told in
    let wanted = there_wanted _ _ _ c.self.invariant laws c.args.who c.same-exec.result holds (sym c.if-not-is_present.ensures) in
    let right = subst (λ (s : CoreState). IsDoneOf g.L.Language.lang (doc g.L.Language.lang s.past).homes c.args.done) (sym c.self.view_is) c.requires.right in
    let taken = is_taken_in _ _ _ c.self.invariant laws c.args.who c.same-exec.result c.args.done c.same-exec.ensures holds wanted right
    c.brought.result c.forks_told-forks.result c.brought.ensures c.forks_told-forks.ensures in
    let ok = c.finish-taken.ensures.finished.1 (ap is_some taken) in
    let no = c.is_err-is_lost.ensures.negation in
    let is = c.if-is_lost.true in absurd (cc)

pub invariant_of-self-2 : goal.invariant_of-self-2
invariant_of-self-2 g c =
    let holds = subst (λ (s : CoreState). held s.past c.args.who ≡ Some c.args.done.part) (sym c.self.view_is) c.requires.holds
    ∙ ap (λ (q : Part). Some q) (sym c.same-exec.ensures) in
    let laws = laws_of _ _ _ c.self.invariant c.tip_law.ensures c.holders_law.ensures.told in
    let wanted = there_wanted _ _ _ c.self.invariant laws c.args.who c.same-exec.result holds (sym c.if-not-is_present.ensures) in
    let right = subst (λ (s : CoreState). IsDoneOf g.L.Language.lang (doc g.L.Language.lang s.past).homes c.args.done) (sym c.self.view_is) c.requires.right in
    let one = counted _ _ (c.self.invariant.holders c.args.who ∙ holds) in
    let updates = on_ok c.finish-taken.result _ (search rules) c.finish-taken.ensures.ok in
    moved _ _ _ _ c.add-2.ensures.items
    (finish_kept _ _ _ c.self.invariant laws c.args.who c.same-exec.result c.args.done c.same-exec.ensures holds wanted right
    c.brought.result c.forks_told-forks.result c.brought.ensures c.forks_told-forks.ensures _ _ _ _ _ _
    updates c.take_out.ensures.things c.follow.ensures.here c.follow.ensures.waiters c.follow.ensures.free c.follow.ensures.others
    (omega (arith, one, c.take_out.ensures.len, c.follow.ensures.room, c.self.invariant.room))
    c.follow.ensures.count)

pub returns-clause-finished : goal.returns-clause-finished
returns-clause-finished g c =
    let l = g.L.Language.lang in
    let holds = subst (λ (s : CoreState). held s.past c.args.who ≡ Some c.args.done.part) (sym c.self.view_is) c.requires.holds
    ∙ ap (λ (q : Part). Some q) (sym c.same-exec.ensures) in
    let laws = laws_of _ _ _ c.self.invariant c.tip_law.ensures c.holders_law.ensures.told in
    let wanted = there_wanted _ _ _ c.self.invariant laws c.args.who c.same-exec.result holds (sym c.if-not-is_present.ensures) in
    subst (λ (s : CoreState). (is_wanted (doc l s.past) c.args.done.part.exec ≡ true) × (c.add-2.new.self ≡ Finished c.args.who c.args.done.part ∷ s.past))
    c.self.view_is (
      ap (λ (q : Part). is_wanted (doc l c.self.inside.past) q.exec) (sym c.same-exec.ensures) ∙ wanted,
      c.add-2.ensures.items ∙ ap (λ (q : Part). Finished c.args.who q ∷ c.self.inside.past) c.same-exec.ensures,
    )

pub returns-clause-legal : goal.returns-clause-legal
returns-clause-legal g c = (invariant_of-self-2 g c).legal
