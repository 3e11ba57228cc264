use Rattle.std.proofs.Common.{◌≡◌, sym, subst, rules}
use Rattle.std.specs.List.{AllByRecursion}
use Rattle.exec_rules.specs.declared.version.Version.{Version}
use Rattle.exec_rules.specs.Assigning.{Update}
use Rattle.core_rules.specs.Assigned.{is_visible}
use Rattle.update_plans.specs.declared.seeing.Sight.{Sight}
use Rattle.update_plans.specs.Steps.{update_by}
use Rattle.update_plans.proofs.Stood.{untouched_then, same_update, fits_then, made_then, follows_then}
use Rattle.update_plans.proofs.steps.work_out.Goals as goal

pub of-requires-clause-untouched : goal.of-requires-clause-untouched
of-requires-clause-untouched g c =
    untouched_then c.of-cancelled.result.execs.now c.args.execs.now c.args.before.now c.args.nodes.now c.args.blobs.now c.deref.result.now
    c.in_ok-marks.marks.items c.of-cancelled.ensures c.deref.ensures.value (c.in_ok-marks.ensures.untouched c.args.blobs.now)

pub steps_of-requires-clause-follows : goal.steps_of-requires-clause-follows
steps_of-requires-clause-follows g c =
    let u : Update = update_by c.args.execs.now.rows c.args.before.now c.args.nodes.now c.args.blobs.now in
    let same = same_update c.of-cancelled.result.execs.now c.args.execs.now c.args.before.now c.args.nodes.now c.args.blobs.now c.in_ok-update.update
    c.of-cancelled.ensures c.in_ok-update.ensures in
    let outcome = c.in_ok-outcome.outcome in
    let version : outcome.version ≡ record { nodes = u.nodes; blobs = u.blobs; assigned = c.in_ok-made.made.assigned } = search rules in
    let standing : outcome.standing ≡ c.in_ok-made.made.standing = search rules in
    follows_then u c.in_ok-update.update c.args.next c.in_ok-made.made.assigned outcome.version same c.in_ok-made.ensures.assigned
    version c.in_ok-made.ensures.rows c.in_ok-made.made.standing outcome.standing c.in_ok-made.made.next
    c.in_ok-made.ensures.standing c.in_ok-made.ensures.next c.in_ok-made.ensures.within c.requires.succeeds standing

pub returns-clause-version : goal.returns-clause-version
returns-clause-version g c =
    let u : Update = update_by c.args.execs.now.rows c.args.before.now c.args.nodes.now c.args.blobs.now in
    let same = same_update c.of-cancelled.result.execs.now c.args.execs.now c.args.before.now c.args.nodes.now c.args.blobs.now c.in_ok-update.update
    c.of-cancelled.ensures c.in_ok-update.ensures in
    let version : c.in_ok-steps.steps.version ≡ record { nodes = u.nodes; blobs = u.blobs; assigned = c.in_ok-made.made.assigned } = search rules in
    made_then u c.in_ok-update.update c.args.next c.in_ok-made.made.assigned c.in_ok-steps.steps.version same c.in_ok-made.ensures.assigned
    version c.in_ok-made.ensures.rows

pub returns-clause-rows : goal.returns-clause-rows
returns-clause-rows g c =
    let u : Update = update_by c.args.execs.now.rows c.args.before.now c.args.nodes.now c.args.blobs.now in
    let same = same_update c.of-cancelled.result.execs.now c.args.execs.now c.args.before.now c.args.nodes.now c.args.blobs.now c.in_ok-update.update
    c.of-cancelled.ensures c.in_ok-update.ensures in
    let version : c.in_ok-steps.steps.version ≡ record { nodes = u.nodes; blobs = u.blobs; assigned = c.in_ok-made.made.assigned } = search rules in
    fits_then u c.in_ok-update.update c.args.next c.in_ok-made.made.assigned c.in_ok-steps.steps.version same c.in_ok-made.ensures.assigned
    version c.in_ok-made.ensures.rows

pub returns-clause-sees : goal.returns-clause-sees
returns-clause-sees g c =
    subst (λ (v : Version). AllByRecursion (λ (s : Sight). is_visible v s.exec ≡ s.visible) c.in_ok-steps.steps.sights.items)
    (sym c.in_ok-steps.ensures.version) c.in_ok-steps.ensures.sees
