-- What is kept once a planned update is made.
use Rattle.std.proofs.Common.{◌≡◌, ℕ, ◌≤◌, cond, List, [], ◌∷◌, ◌++◌, map, Option, None, ap, sym, subst, ◌∙◌}
use Rattle.std.specs.List.{AllByRecursion}
use Rattle.std.specs.Option.{option_map}
use Rattle.text_words.specs.Members.{has}
use Rattle.pide_base.specs.Ids.{id_end}
use Rattle.core_tables.specs.Live.{History}
use Rattle.core_tables.specs.declared.execution.Execution.{Execution}
use Rattle.core_tables.specs.Finish.{after_cancelling}
use Rattle.core_tables.specs.declared.task.Standing.{Standing as Task}
use Rattle.core_tables.specs.Changes.{waiting}
use Rattle.exec_rules.specs.declared.home.Home.{Home}
use Rattle.exec_rules.specs.declared.version.Version.{Version}
use Rattle.exec_rules.specs.Assigning.{Assignment}
use Rattle.exec_assign.specs.Fitting.{RowsFit}
use Rattle.language.specs.Lang.{Lang}
use Rattle.core_rules.specs.declared.event.Event.{Event}
use Rattle.core_rules.specs.declared.event.Event.TheVariants as event
use Rattle.core_rules.specs.Assigned.{is_visible}
use Rattle.core_rules.specs.Doc.{doc, assignment_of, assigned_version}
use Rattle.core_jobs.specs.declared.done.Done.{Done}
use Rattle.update_plans.specs.declared.known.Known.{Known}
use Rattle.update_plans.specs.declared.beginning.Fresh.{Fresh}
use Rattle.update_plans.specs.declared.seeing.Sight.{Sight}
use Rattle.version_losses.specs.declared.losses.Loss.{Loss}
use Rattle.prover_core.specs.Plans.{PlanState, made_version, begun_as, ranked, IsSeen, HasRoom}
use Rattle.prover_core.specs.States.{CoreState}
use Rattle.prover_core.specs.Fresh.{with_fresh, AreNew}
use Rattle.prover_core.specs.Kept.{Tables, IsKept}
use Rattle.prover_core.proofs.UpdatedKept.{updated_kept}
use Rattle.prover_core.proofs.PlanTables.{rows_are, homes_then}
use Rattle.prover_core.proofs.PlanTasks.{tasks_then}
use Rattle.prover_core.proofs.FreshNew.{fresh_new}
use Rattle.prover_core.proofs.NewPlan.{Plans, legal, same_version, drops, updating, is_planned, next_so}
use Rattle.prover_core.proofs.UpdateFacts.{tables_with}

module _ {S : Type 0} {l : Lang S} {h : List Event} {t : Tables S} {p : PlanState} {fresh : List Fresh} (plan : Plans l h t p fresh) where
  abbrev more : List Event
  more = event.Update p.version p.nodes p.blobs ∷ h

  abbrev new : Version
  new = assigned_version p.nodes p.blobs (assignment_of (doc l h) p.nodes p.blobs)

  rows_dropped : (ds : List ℕ) → ds ≡ p.dropped → (rows1 : ℕ → Option (Execution (Done S)))
      → ((e : ℕ) → rows1 e ≡ cond (has ds e) (after_cancelling (t.rows e)) (t.rows e))
      → (e : ℕ) → rows1 e ≡ cond (has p.dropped e) (after_cancelling (t.rows e)) (t.rows e)
  rows_dropped ds same rows1 rows e = rows e ∙ ap (λ xs. cond (has xs e) (after_cancelling (t.rows e)) (t.rows e)) same

  tasks_dropped : (ds : List ℕ) → ds ≡ p.dropped → (tasks1 : ℕ → Option Task) → ((e : ℕ) → tasks1 e ≡ cond (has ds e) None (t.tasks e))
      → (e : ℕ) → tasks1 e ≡ cond (has p.dropped e) None (t.tasks e)
  tasks_dropped ds same tasks1 tasks e = tasks e ∙ ap (λ xs. cond (has xs e) None (t.tasks e)) same

  -- the new executions can be put in
  pub can_add : (ds : List ℕ) → ds ≡ p.dropped → (rows1 : ℕ → Option (Execution (Done S))) (known : ℕ → Option Known) (tasks1 : ℕ → Option Task)
      → ((e : ℕ) → rows1 e ≡ cond (has ds e) (after_cancelling (t.rows e)) (t.rows e))
      → ((e : ℕ) → option_map (λ (x : Known). x.home) (known e) ≡ t.homes e)
      → ((e : ℕ) → tasks1 e ≡ cond (has ds e) None (t.tasks e)) → AreNew fresh rows1 known tasks1
  can_add ds same rows1 known tasks1 rows homes tasks =
      fresh_new (is_planned plan) rows1 known tasks1 (rows_dropped ds same rows1 rows) homes (tasks_dropped ds same tasks1 tasks)

  -- evaluations are seen as they are told
  pub seen_so : AllByRecursion (λ (s : Sight). is_visible new s.exec ≡ s.visible) p.sights
  seen_so = subst (λ v. AllByRecursion (IsSeen v) p.sights) (same_version plan) plan.planned.sees

  pub planned_kept : (versions : History Version) → versions.start ≡ t.versions.start
      → versions.live ≡ t.versions.live ++ record { id = p.version; version = made_version p } ∷ []
      → (ds : List ℕ) → ds ≡ p.dropped → (rows1 rows2 : ℕ → Option (Execution (Done S))) (tasks1 tasks2 tasks3 : ℕ → Option Task) (homes : ℕ → Option Home)
      → ((e : ℕ) → rows1 e ≡ cond (has ds e) (after_cancelling (t.rows e)) (t.rows e))
      → ((e : ℕ) → rows2 e ≡ with_fresh (λ (one : Fresh). begun_as one.task.part.kind) fresh rows1 e)
      → ((e : ℕ) → homes e ≡ with_fresh (λ (one : Fresh). one.known.home) fresh t.homes e)
      → ((e : ℕ) → tasks1 e ≡ cond (has ds e) None (t.tasks e))
      → ((e : ℕ) → tasks2 e ≡ with_fresh (λ (one : Fresh). waiting one.task) fresh tasks1 e)
      → ((e : ℕ) → tasks3 e ≡ cond (has (map (λ (s : Sight). s.exec) p.sights) e)
      (option_map (ranked (is_visible new e)) (tasks2 e)) (tasks2 e))
      → (losses : List Loss) → losses ≡ t.losses ++ record { id = p.version; next = p.assignment.next; lost = p.dropped } ∷ []
      → (room count : ℕ) (cancelled : List ℕ) (spare : ℕ) → t.holding ≤ room → cancelled ≡ [] → count ≤ spare
      → IsKept l more (tables_with t versions losses p.assignment.next rows2 homes tasks3 room count cancelled spare)
  planned_kept versions begins lives ds same rows1 rows2 tasks1 tasks2 tasks3 homes drop add put out queue see losses push room count cancelled spare roomy none fits =
      updated_kept (updating plan) (legal plan) versions begins
      (lives ∙ ap (λ v. t.versions.live ++ record { id = p.version; version = v } ∷ []) (same_version plan))
      (subst RowsFit (same_version plan) plan.planned.rows_fit) p.assignment.next (next_so plan)
      (subst (λ n. n ≤ id_end) (sym (ap (λ (a : Assignment). a.next) plan.planned.assigned)) plan.planned.fits.numbers)
      rows2 (rows_are (is_planned plan) rows1 rows2 (rows_dropped ds same rows1 drop) add)
      homes (homes_then (is_planned plan) homes put)
      tasks3 (tasks_then (is_planned plan)
      (λ e. has (map (λ (s : Sight). s.exec) p.sights) e) tasks1 tasks2 tasks3 (tasks_dropped ds same tasks1 out) queue see
      (λ e is. sym (ap (λ v. is_visible v e) (same_version plan)) ∙ plan.planned.unseen e is)
      (λ e past is. sym (ap (λ v. is_visible v e) (same_version plan)) ∙ plan.planned.unseen_new e past is))
      p.dropped (drops plan) losses push room count cancelled spare roomy none fits

-- room in other words
pub has_room : (s u : CoreState) (q r : PlanState) → s ≡ u → q ≡ r → HasRoom u.room r → HasRoom s.room q
has_room s u q r same alike room =
    subst (λ (x : CoreState). HasRoom x.room q) (sym same) (subst (λ (y : PlanState). HasRoom u.room y) (sym alike) room)
