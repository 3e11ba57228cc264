use Rattle.std.proofs.Common.{◌<◌, ap, sym, subst, ◌∙◌, refl, rules}
use Rattle.pide_base.specs.Ids.{id_end}
use Rattle.exec_rules.specs.declared.version.Version.{Version}
use Rattle.exec_rules.specs.Assigning.{assignment}
use Rattle.exec_assign.specs.Fitting.{RowsFit}
use Rattle.core_rules.specs.Doc.{doc, assignment_of}
use Rattle.update_plans.specs.Steps.{update_by}
use Rattle.update_plans.specs.Cancelled.{IsQuiet as Quiet}
use Rattle.prover_core.specs.Plans.{IsPlanOf}
use Rattle.prover_core.specs.Planned.{plan_of}
use Rattle.prover_core.specs.States.{CoreState}
use Rattle.prover_core.proofs.PlanIs.{plan_is}
use Rattle.prover_core.proofs.PlanSteps.{AreSteps, steps_are, succeeds_then, limit_at}
use Rattle.prover_core.proofs.PlanTip.{asks_in, succeeds, limit_then}
use Rattle.prover_core.proofs.TipTold.{quiet_tip}
use Rattle.prover_core.proofs.QuietParts.{quiet_so}
use Rattle.prover_core.proofs.prover.Core.steps.Goals as goal

pub work_out-requires-clause-fits : goal.work_out-requires-clause-fits
work_out-requires-clause-fits g c =
    subst RowsFit (sym (c.get-tip.ensures ∙ c.tip.ensures ∙ c.self.invariant.tip)) c.self.invariant.rows_fit

pub work_out-requires-clause-quiet : goal.work_out-requires-clause-quiet
work_out-requires-clause-quiet g c = λ is.
    let l = g.L.Language.lang in
    let tip = c.get-tip.ensures ∙ c.tip.ensures ∙ c.self.invariant.tip in
    subst (λ (v : Version). Quiet c.self.inside.execs.rows v) (sym tip)
    (quiet_tip l _ _ c.self.invariant c.self.inside.execs.rows (λ e. refl) (quiet_so l _ _ c.self.invariant (search rules)))

pub work_out-requires-clause-succeeds : goal.work_out-requires-clause-succeeds
work_out-requires-clause-succeeds g c =
    let l = g.L.Language.lang in
    let asks = asks_in c.self.invariant c.plan_laws.ensures c.args.id c.args.nodes.now c.args.blobs.now _ (ap (λ (s : CoreState). s.past) c.self.view_is)
    c.requires.going c.requires.fits c.self.inside.execs.rows (λ e. refl) in
    let tip = c.get-tip.ensures ∙ c.tip.ensures ∙ c.self.invariant.tip in
    succeeds_then c.self.inside.execs.rows _ _ c.args.nodes.now c.args.blobs.now _ _ tip c.self.invariant.next_is
    (succeeds asks)

pub returns-clause-ok : goal.returns-clause-ok
returns-clause-ok g c =
    let l = g.L.Language.lang in
    let asks = asks_in c.self.invariant c.plan_laws.ensures c.args.id c.args.nodes.now c.args.blobs.now _ (ap (λ (s : CoreState). s.past) c.self.view_is)
    c.requires.going c.requires.fits c.self.inside.execs.rows (λ e. refl) in
    let tip = c.get-tip.ensures ∙ c.tip.ensures ∙ c.self.invariant.tip in
    let ens = c.in_ok-steps.ensures in
    let steps = c.in_ok-steps.steps in
    let are : AreSteps c.self.inside.execs.rows c.get-tip.result.now c.args.nodes.now c.args.blobs.now c.self.inside.next steps = record {
      version = ens.version;
      next_is = ens.next;
      within = ens.within;
      fit = ens.rows;
      fresh = ens.fresh;
      dropped = ens.dropped;
      sees = ens.sees;
      unseen = ens.unseen;
      told = ens.told;
    } in
    subst (λ (s : CoreState). IsPlanOf l s.past (plan_of c.args.id steps)) c.self.view_is
    (plan_is asks steps
    (steps_are c.self.inside.execs.rows _ _ c.args.nodes.now c.args.blobs.now _ _ steps tip c.self.invariant.next_is are))

pub returns-in_err-steps-clause-limit : goal.returns-in_err-steps-clause-limit
returns-in_err-steps-clause-limit g c = λ is.
    let l = g.L.Language.lang in
    let asks = asks_in c.self.invariant c.plan_laws.ensures c.args.id c.args.nodes.now c.args.blobs.now _ (ap (λ (s : CoreState). s.past) c.self.view_is)
    c.requires.going c.requires.fits c.self.inside.execs.rows (λ e. refl) in
    let tip = c.get-tip.ensures ∙ c.tip.ensures ∙ c.self.invariant.tip in
    let over : id_end < (assignment (update_by c.self.inside.execs.rows c.get-tip.result.now c.args.nodes.now c.args.blobs.now) c.self.inside.next).next =
    c.in_err-steps.ensures.limit (search rules) in
    subst (λ (s : CoreState). id_end < (assignment_of (doc l s.past) c.args.nodes.now c.args.blobs.now).next) c.self.view_is
    (limit_then asks
    (limit_at c.self.inside.execs.rows _ _ c.args.nodes.now c.args.blobs.now _ _ tip c.self.invariant.next_is over))
