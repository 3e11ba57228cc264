-- The tasks that a planned update leaves are those of the document with the new version.
use Rattle.std.proofs.Common.{◌≡◌, ◌⊎◌, inl, inr, ℕ, ◌<◌, ◌≤◌, Bool, true, false, cond, not, ◌&&◌, List, length, Option, Some, None, refl, ap, sym, subst, ◌∙◌}
use Rattle.std.specs.Option.{option_map, option_map_or}
use Rattle.std.proofs.Math.Bool.{and-false}
use Rattle.text_words.specs.Members.{has}
use Rattle.doc_nodes.specs.Imports.{NodeList}
use Rattle.core_tables.specs.declared.task.Standing.{Standing as Task}
use Rattle.core_tables.specs.Changes.{waiting}
use Rattle.exec_rules.specs.declared.home.Home.{Home}
use Rattle.exec_rules.specs.Kept.{BlobList}
use Rattle.language.specs.Lang.{Lang}
use Rattle.core_rules.specs.declared.event.Event.{Event}
use Rattle.core_rules.specs.Numbered.{numbered}
use Rattle.core_rules.specs.Assigned.{assigns, is_visible}
use Rattle.core_rules.specs.Standing.{standing}
use Rattle.update_plans.specs.declared.beginning.Fresh.{Fresh}
use Rattle.update_plans.specs.Begun.{first_kind}
use Rattle.prover_core.specs.Progress.{next_of}
use Rattle.prover_core.specs.Tasks.{IsTaskOf, AreTasks}
use Rattle.prover_core.specs.Plans.{ranked}
use Rattle.prover_core.specs.Fresh.{with_fresh}
use Rattle.prover_core.specs.Kept.{Tables}
use Rattle.prover_core.proofs.FreshPlan.{Found}
use Rattle.prover_core.proofs.UpdatedTasks.{AreTasksThen}
use Rattle.prover_core.proofs.UpdateTables.{no_task}
use Rattle.prover_core.proofs.PlanFresh.{fresh_none, fresh_behind, beyond_old, fresh_found, not_dropped, plain_task, seen_task}
use Rattle.prover_core.proofs.UpdateFacts.{Updating, IsPlanned, d, more, now, new}

module _ {S : Type 0} {l : Lang S} {h : List Event} {t : Tables S} {id : ℕ} {nodes : NodeList} {blobs : BlobList} {u : Updating l h t id nodes blobs}
    {dropped : List ℕ} {fresh : List Fresh} (p : IsPlanned u dropped fresh) where
  module _ (seen : ℕ → Bool) (tasks1 tasks2 tasks3 : ℕ → Option Task)
      (drop : (e : ℕ) → tasks1 e ≡ cond (has dropped e) None (t.tasks e))
      (add : (e : ℕ) → tasks2 e ≡ with_fresh (λ (one : Fresh). waiting one.task) fresh tasks1 e)
      (see : (e : ℕ) → tasks3 e ≡ cond (seen e) (option_map (ranked (is_visible (new u) e)) (tasks2 e)) (tasks2 e))
      (unseen : (e : ℕ) → seen e ≡ false → is_visible (new u) e ≡ is_visible (d u).tip e)
      (unseen_new : (e : ℕ) → length (d u).homes < e → seen e ≡ false → is_visible (new u) e ≡ false) where
    abbrev put_task : Option Fresh → Option Task → Option Task
    put_task o task = option_map_or (λ (one : Fresh). Some (waiting one.task)) o task

    abbrev with_sight : ℕ → Bool → Option Task → Option Task
    with_sight e b o = cond b (option_map (ranked (is_visible (new u) e)) o) o

    none_seen : (e : ℕ) (b : Bool) → with_sight e b None ≡ None
    none_seen e true = refl
    none_seen e false = refl

    outside : (e : ℕ) → assigns (d u).tip e ≡ false → t.tasks e ≡ None
    outside e is = go (t.tasks e) refl (subst (λ o. AreTasks (standing h) (d u).tip (d u).homes e o (t.tasks e))
        (ap (λ b. cond (b && not (has (d u).cancelled e)) (next_of l h (d u) e) None) is) (u.kept.tasks e))
      where
        go : (o : Option Task) → t.tasks e ≡ o → AreTasks (standing h) (d u).tip (d u).homes e None o → o ≡ None
        go None is are = refl
        go (Some s) is are = absurd (are)

    gone : (e : ℕ) → assigns (new u) e ≡ false → tasks1 e ≡ None
    gone e is = drop e ∙ ap (λ b. cond b None (t.tasks e)) (p.drops e ∙ ap (λ b. assigns (d u).tip e && not b) is)
        ∙ go (assigns (d u).tip e) refl
      where
        go : (b : Bool) → assigns (d u).tip e ≡ b → cond (b && true) None (t.tasks e) ≡ None
        go true x = refl
        go false x = outside e x

    without : (e : ℕ) → assigns (new u) e ≡ false → cond (assigns (d u).tip e) None (t.tasks e) ≡ None
    without e is = go (assigns (d u).tip e) refl
      where
        go : (b : Bool) → assigns (d u).tip e ≡ b → cond b None (t.tasks e) ≡ None
        go true x = refl
        go false x = outside e x

    stays : (e : ℕ) → e ≤ length (d u).homes → assigns (new u) e ≡ true → tasks2 e ≡ t.tasks e
    stays e le is = add e ∙ ap (λ o. put_task o (tasks1 e)) (fresh_none p e le) ∙ drop e
        ∙ ap (λ b. cond b None (t.tasks e)) (p.drops e ∙ ap (λ b. assigns (d u).tip e && not b) is ∙ and-false (assigns (d u).tip e))

    new_task : (e : ℕ) (x : Home) → length (d u).homes < e → numbered (now u).homes e ≡ Some x
        → (s : Task) × (tasks3 e ≡ Some s) × IsTaskOf (standing (more u)) (new u) (now u).homes e (first_kind x.input) s
    new_task e x past at = go (seen e) refl
      where
        one : Found h fresh e x
        one = fresh_found p e x past at

        put_in : tasks2 e ≡ Some (waiting one.one.task)
        put_in = add e ∙ ap (λ o. put_task o (tasks1 e)) one.at

        go : (b : Bool) → seen e ≡ b
            → (s : Task) × (tasks3 e ≡ Some s) × IsTaskOf (standing (more u)) (new u) (now u).homes e (first_kind x.input) s
        go true is = (
          ranked (is_visible (new u) e) (waiting one.one.task),
          see e ∙ ap (λ b. with_sight e b (tasks2 e)) is ∙ ap (option_map (ranked (is_visible (new u) e))) put_in,
          seen_task p e x past at one,
        )
        go false is = (
          waiting one.one.task,
          see e ∙ ap (λ b. with_sight e b (tasks2 e)) is ∙ put_in,
          plain_task p e x past at one (unseen_new e past is),
        )

    old_task : (e : ℕ) → e ≤ length (d u).homes → assigns (new u) e ≡ true
        → (tasks3 e ≡ option_map (ranked (is_visible (new u) e)) (t.tasks e))
        ⊎ ((tasks3 e ≡ t.tasks e) × (is_visible (new u) e ≡ is_visible (d u).tip e))
    old_task e le is = go (seen e) refl
      where
        go : (b : Bool) → seen e ≡ b → (tasks3 e ≡ option_map (ranked (is_visible (new u) e)) (t.tasks e))
            ⊎ ((tasks3 e ≡ t.tasks e) × (is_visible (new u) e ≡ is_visible (d u).tip e))
        go true x = inl (see e ∙ ap (λ b. with_sight e b (tasks2 e)) x ∙ ap (option_map (ranked (is_visible (new u) e))) (stays e le is))
        go false x = inr (see e ∙ ap (λ b. with_sight e b (tasks2 e)) x ∙ stays e le is, unseen e x)

    pub tasks_then : AreTasksThen u tasks3
    tasks_then = record {
      dropped = λ e le is. see e ∙ ap (with_sight e (seen e)) (add e ∙ ap (λ o. put_task o (tasks1 e)) (fresh_none p e le) ∙ gone e is)
          ∙ none_seen e (seen e) ∙ sym (without e is);
      ranked = old_task;
      fresh = new_task;
      others = λ e past. see e
          ∙ ap (with_sight e (seen e)) (add e ∙ ap (λ o. put_task o (tasks1 e)) (fresh_behind p e past) ∙ drop e
          ∙ ap (λ b. cond b None (t.tasks e)) (not_dropped p e (beyond_old p e past))
          ∙ no_task u e (beyond_old p e past))
          ∙ none_seen e (seen e);
    }
