use Rattle.std.proofs.Common.{◌≡◌, ◌<◌, ◌≤◌, ◌-◌, ℕ, Bool, List, ◌∷◌, cond, map, sym, ap, subst, ◌∙◌, refl, arith, reverse, length}
use Rattle.std.proofs.lemmas.List.{length-map, length-reverse}
use Rattle.std.proofs.Math.Nat.{min-le_left, min-le_right}
use Rattle.std.specs.Prelude.{min, flat_map, vec_capacity}
use Rattle.std.specs.HashMap.{hash_map_len, spare}
use Rattle.core_tables.specs.declared.task.Task.{Task}
use Rattle.std.specs.Option.{option_map}
use Rattle.std.specs.List.{AllByRecursion}
use Rattle.text_words.specs.Members.{has}
use Rattle.core_tables.specs.Tasks.{standing}
use Rattle.core_tables.specs.Live.{version_of}
use Rattle.core_rules.specs.declared.event.Event.{Event}
use Rattle.core_rules.specs.Doc.{doc}
use Rattle.core_rules.specs.Legal.{IsLegal}
use Rattle.update_plans.specs.declared.beginning.Fresh.{Fresh}
use Rattle.update_plans.specs.declared.seeing.Sight.{Sight}
use Rattle.prover_core.specs.Looked.{looked}
use Rattle.prover_core.specs.States.{CoreState}
use Rattle.prover_core.specs.Plans.{ranked}
use Rattle.prover_core.proofs.EndedKept.{moved}
use Rattle.prover_core.proofs.LiveIds.{live_ids, fresh_id}
use Rattle.prover_core.proofs.FreshAll.{homes_of, links_of}
use Rattle.prover_core.proofs.NewPlan.{plans_in}
use Rattle.prover_core.proofs.PlannedKept.{can_add, seen_so, planned_kept, has_room}
use Rattle.prover_core.proofs.prover.Core.update.Goals as goal

pub add_all-requires-clause-new : goal.add_all-requires-clause-new
add_all-requires-clause-new g c =
    let plan = plans_in c.self.invariant c.plan_laws.ensures.update _ _ (reverse c.plan.inside.fresh.items) _ refl refl (ap (λ (s : CoreState). s.past) c.self.view_is)
    c.plan.view_is c.requires.going c.requires.planned in
    can_add plan _ (c.as_slice.ensures ∙ c.get.ensures) _ _ _ c.drop_all.ensures.rows (λ e. refl) c.drop_all.ensures.tasks

pub add_all-requires-clause-executions : goal.add_all-requires-clause-executions
add_all-requires-clause-executions g c =
    let here = has_room _ _ _ _ c.self.view_is c.plan.view_is c.requires.room in
    let len = length-map (reverse c.plan.inside.fresh.items) (λ (x : Fresh). x.task) ∙ length-reverse c.plan.inside.fresh.items in
    let most : length (map (λ (x : Fresh). x.task) (reverse c.plan.inside.fresh.items)) ≤ min (min c.self.inside.execs.room (spare c.self.inside.known))
    (vec_capacity c.self.inside.cancelled - length c.self.inside.queue.tasks) = here.executions in
    omega (arith, most, len, c.drop_all.ensures.executions)

pub add_all-requires-clause-spare : goal.add_all-requires-clause-spare
add_all-requires-clause-spare g c =
    let here = has_room _ _ _ _ c.self.view_is c.plan.view_is c.requires.room in
    let len = length-map (reverse c.plan.inside.fresh.items) (λ (x : Fresh). x.task) ∙ length-reverse c.plan.inside.fresh.items in
    let most : length (map (λ (x : Fresh). x.task) (reverse c.plan.inside.fresh.items)) ≤ min (min c.self.inside.execs.room (spare c.self.inside.known))
    (vec_capacity c.self.inside.cancelled - length c.self.inside.queue.tasks) = here.executions in
    omega (arith, most, len)

pub add_all-requires-clause-room : goal.add_all-requires-clause-room
add_all-requires-clause-room g c =
    let here = has_room _ _ _ _ c.self.view_is c.plan.view_is c.requires.room in
    let len = length-map (reverse c.plan.inside.fresh.items) (λ (x : Fresh). x.task) ∙ length-reverse c.plan.inside.fresh.items in
    let most : length (map (λ (x : Fresh). x.task) (reverse c.plan.inside.fresh.items)) ≤ c.self.inside.queue.room - hash_map_len c.self.inside.holders = here.tasks in
    omega (arith, most, len, c.drop_all.ensures.room)

pub add_all-requires-clause-links : goal.add_all-requires-clause-links
add_all-requires-clause-links g c =
    let here = has_room _ _ _ _ c.self.view_is c.plan.view_is c.requires.room in
    let most : length (flat_map (λ (x : Task). x.inputs) (map (λ (x : Fresh). x.task) (reverse c.plan.inside.fresh.items))) ≤ c.self.inside.queue.links = here.links in
    omega (arith, most, links_of (reverse c.plan.inside.fresh.items), c.drop_all.ensures.links)

pub push-requires-clause-room : goal.push-requires-clause-room
push-requires-clause-room g c =
    let here = has_room _ _ _ _ c.self.view_is c.plan.view_is c.requires.room in
    let room : 0 < min c.self.inside.versions.room c.self.inside.losses.room = here.versions in
    omega (arith, room, min-le_left c.self.inside.versions.room c.self.inside.losses.room)

pub push-requires-2 : goal.push-requires-2
push-requires-2 g c =
    let here = has_room _ _ _ _ c.self.view_is c.plan.view_is c.requires.room in
    let room : 0 < min c.self.inside.versions.room c.self.inside.losses.room = here.versions in
    omega (arith, room, min-le_right c.self.inside.versions.room c.self.inside.losses.room)

pub push-requires-clause-fresh : goal.push-requires-clause-fresh
push-requires-clause-fresh g c =
    let l = g.L.Language.lang in
    let plan = plans_in c.self.invariant c.plan_laws.ensures.update _ _ (reverse c.plan.inside.fresh.items) _ refl refl (ap (λ (s : CoreState). s.past) c.self.view_is)
    c.plan.view_is c.requires.going c.requires.planned in
    ap (λ live. version_of live c.plan.inside.id) c.self.invariant.live
    ∙ fresh_id (doc l c.self.inside.past).last c.plan.inside.id (doc l c.self.inside.past).live
    (live_ids l c.self.inside.past c.self.invariant.legal) plan.planned.fits.newer

pub invariant_of-self : goal.invariant_of-self
invariant_of-self g c =
    let plan = plans_in c.self.invariant c.plan_laws.ensures.update _ _ (reverse c.plan.inside.fresh.items) _ refl refl (ap (λ (s : CoreState). s.past) c.self.view_is)
    c.plan.view_is c.requires.going c.requires.planned in
    let sees = subst (λ (ss : List Sight). (see : ℕ → Bool) → AllByRecursion (λ (s : Sight). see s.exec ≡ s.visible) ss → (e : ℕ)
    → standing c.see_all.new.queue e ≡ cond (has (map (λ (s : Sight). s.exec) ss) e)
    (option_map (ranked (see e)) (standing c.add_all.new.queue e)) (standing c.add_all.new.queue e)) c.deref.ensures.value
    c.see_all.ensures.tasks in
    let here = has_room _ _ _ _ c.self.view_is c.plan.view_is c.requires.room in
    let len = length-map (reverse c.plan.inside.fresh.items) (λ (x : Fresh). x.task) ∙ length-reverse c.plan.inside.fresh.items in
    let most : length (map (λ (x : Fresh). x.task) (reverse c.plan.inside.fresh.items)) ≤ c.self.inside.queue.room - hash_map_len c.self.inside.holders = here.tasks in
    let noted : length (map (λ (x : Fresh). x.task) (reverse c.plan.inside.fresh.items)) ≤ min (min c.self.inside.execs.room (spare c.self.inside.known))
    (vec_capacity c.self.inside.cancelled - length c.self.inside.queue.tasks) = here.executions in
    moved _ _ _ _ (c.add.ensures.items ∙ ap (λ (x : Event). x ∷ c.self.inside.past) c.plan.invariant)
    (planned_kept plan c.push.new.self c.push.ensures.start c.push.ensures.live _ (c.as_slice.ensures ∙ c.get.ensures) _ _ _ _ _ _
    c.drop_all.ensures.rows c.add_all.ensures.rows
    (homes_of (reverse c.plan.inside.fresh.items) (λ e. looked c.self.inside.known e) (λ e. looked c.add_all.new.known e) c.add_all.ensures.homes)
    c.drop_all.ensures.tasks c.add_all.ensures.tasks
    (sees _ (seen_so plan)) _ c.push-2.ensures.losses _ _ _ _
    (omega (arith, most, len, c.drop_all.ensures.room, c.add_all.ensures.room, c.see_all.ensures.room, c.self.invariant.room))
    c.clear.ensures.items
    (omega (
      arith,
      noted,
      len,
      c.drop_all.ensures.count,
      c.add_all.ensures.count,
      c.see_all.ensures.count,
      c.clear.ensures.len,
      c.clear.ensures.capacity,
      c.self.invariant.spare,
    )))

pub returns-clause-legal : goal.returns-clause-legal
returns-clause-legal g c =
    let plan = plans_in c.self.invariant c.plan_laws.ensures.update _ _ (reverse c.plan.inside.fresh.items) _ refl refl (ap (λ (s : CoreState). s.past) c.self.view_is)
    c.plan.view_is c.requires.going c.requires.planned in
    subst (IsLegal g.L.Language.lang) (sym (c.add.ensures.items ∙ ap (λ (x : Event). x ∷ c.self.inside.past) c.plan.invariant))
    (c.self.invariant.legal, (plan.going, plan.planned.fits))
