-- The tasks of the tip that an update makes.
use Rattle.std.proofs.Common.{◌≡◌, ◌⊎◌, inl, inr, ℕ, ◌<◌, ◌≤◌, Bool, true, false, cond, not, ◌&&◌, List, length, Option, Some, None, refl, ap, sym, subst, ◌∙◌}
use Rattle.std.proofs.lemmas.Bool.{false≢true, cases_lt}
use Rattle.std.specs.Option.{option_map, option_and_then}
use Rattle.text_words.specs.Members.{has}
use Rattle.pide_base.specs.declared.part.PartKind.{PartKind}
use Rattle.doc_nodes.specs.Imports.{NodeList}
use Rattle.core_tables.specs.declared.task.Standing.{Standing as Task}
use Rattle.exec_rules.specs.declared.home.Home.{Home}
use Rattle.exec_rules.specs.declared.home.Input.{Input}
use Rattle.exec_rules.specs.declared.home.Input.TheVariants as input
use Rattle.exec_rules.specs.Kept.{BlobList}
use Rattle.language.specs.Lang.{Lang}
use Rattle.core_rules.specs.declared.event.Event.{Event}
use Rattle.core_rules.specs.Numbered.{numbered}
use Rattle.core_rules.specs.Assigned.{assigns, is_visible}
use Rattle.core_rules.specs.Parts.{forks}
use Rattle.core_rules.specs.Standing.{standing}
use Rattle.prover_core.specs.Progress.{completed_in, next_kind, next_of}
use Rattle.prover_core.specs.Tasks.{present_kind, IsTaskOf, AreTasks, HasTask}
use Rattle.update_plans.specs.Begun.{first_kind}
use Rattle.prover_core.specs.Plans.{ranked}
use Rattle.prover_core.specs.Kept.{Tables}
use Rattle.prover_core.proofs.UpdatedDoc.{three, not_cancelled, nothing_done}
use Rattle.prover_core.proofs.TasksOver.{present_old, ranked_are, same_are}
use Rattle.prover_core.proofs.UpdateFacts.{Updating, d, more, now, new}

module _ {S : Type 0} {l : Lang S} {h : List Event} {t : Tables S} {id : ℕ} {nodes : NodeList} {blobs : BlobList} (u : Updating l h t id nodes blobs) where
  -- the tasks of an update: those that are dropped are gone, others have their priority told anew
  -- where that is another, and new ones are put in
  pub record AreTasksThen (tasks : ℕ → Option Task) : Type 0 where
    pub dropped : (e : ℕ) → e ≤ length (d u).homes → assigns (new u) e ≡ false → tasks e ≡ cond (assigns (d u).tip e) None (t.tasks e)
    pub ranked : (e : ℕ) → e ≤ length (d u).homes → assigns (new u) e ≡ true
        → (tasks e ≡ option_map (ranked (is_visible (new u) e)) (t.tasks e))
        ⊎ ((tasks e ≡ t.tasks e) × (is_visible (new u) e ≡ is_visible (d u).tip e))
    pub fresh : (e : ℕ) (x : Home) → length (d u).homes < e → numbered (now u).homes e ≡ Some x
        → (s : Task) × (tasks e ≡ Some s) × IsTaskOf (standing (more u)) (new u) (now u).homes e (first_kind x.input) s
    pub others : (e : ℕ) → length (now u).homes < e → tasks e ≡ None

  nothing_there : (e : ℕ) (o : Option PartKind) (s : Option Task) → o ≡ None → AreTasks (standing h) (d u).tip (d u).homes e o s → s ≡ None
  nothing_there e None None is are = refl
  nothing_there e None (Some s) is are = absurd (are)
  nothing_there e (Some x) s is are = absurd (cc)

  first_next : (x : Input) (f : Bool) → next_kind x f (three false false false) ≡ Some (first_kind x)
  first_next (input.First head) f = refl
  first_next (input.Next e) f = refl
  first_next (input.Print e) f = refl

  pub tasks_now : (tasks : ℕ → Option Task) → AreTasksThen tasks → (e : ℕ) → HasTask l (more u) (now u) e (tasks e)
  tasks_now tasks so e = go (assigns (new u) e) refl (cases_lt (length (d u).homes) e)
    where
      gone : assigns (new u) e ≡ false → present_kind l (more u) (now u) e ≡ None
      gone is = ap (λ b. cond (b && not (has (now u).cancelled e)) (next_of l (more u) (now u) e) None) is

      absent : assigns (new u) e ≡ false → e ≤ length (d u).homes → tasks e ≡ None
      absent is le = so.dropped e le is ∙ by (assigns (d u).tip e) refl
        where
          by : (b : Bool) → assigns (d u).tip e ≡ b → cond b None (t.tasks e) ≡ None
          by true x = refl
          by false x = nothing_there e (present_kind l h (d u) e) (t.tasks e)
              (ap (λ b. cond (b && not (has (d u).cancelled e)) (next_of l h (d u) e) None) x) (u.kept.tasks e)

      none : assigns (new u) e ≡ false → tasks e ≡ None → HasTask l (more u) (now u) e (tasks e)
      none is gone_too = subst (λ o. AreTasks (standing (more u)) (new u) (now u).homes e (present_kind l (more u) (now u) e) o) (sym gone_too)
          (subst (λ o. AreTasks (standing (more u)) (new u) (now u).homes e o None) (sym (gone is)) tt)

      old : e ≤ length (d u).homes → assigns (new u) e ≡ true → HasTask l (more u) (now u) e (tasks e)
      old le is = by (so.ranked e le is)
        where
          by : (tasks e ≡ option_map (ranked (is_visible (new u) e)) (t.tasks e))
              ⊎ ((tasks e ≡ t.tasks e) × (is_visible (new u) e ≡ is_visible (d u).tip e)) → HasTask l (more u) (now u) e (tasks e)
          by (inl x) = subst (λ o. AreTasks (standing (more u)) (new u) (now u).homes e (present_kind l (more u) (now u) e) o) (sym x)
              (subst (λ o. AreTasks (standing (more u)) (new u) (now u).homes e o (option_map (ranked (is_visible (new u) e)) (t.tasks e)))
              (sym (present_old u e le is)) (ranked_are u e (present_kind l h (d u) e) (t.tasks e) le (u.kept.tasks e)))
          by (inr x) = subst (λ o. AreTasks (standing (more u)) (new u) (now u).homes e (present_kind l (more u) (now u) e) o) (sym x.0)
              (subst (λ o. AreTasks (standing (more u)) (new u) (now u).homes e o (t.tasks e))
              (sym (present_old u e le is)) (same_are u e (present_kind l h (d u) e) (t.tasks e) le x.1 (u.kept.tasks e)))

      present_new : (x : Home) → length (d u).homes < e → assigns (new u) e ≡ true → numbered (now u).homes e ≡ Some x
          → present_kind l (more u) (now u) e ≡ Some (first_kind x.input)
      present_new x past is at =
          ap (λ b. cond (assigns (new u) e && not b) (next_of l (more u) (now u) e) None) (not_cancelled u e is)
          ∙ ap (λ b. cond (b && true) (next_of l (more u) (now u) e) None) is
          ∙ ap (option_and_then (λ (y : Home). next_kind y.input (forks l (now u).homes e) (completed_in (more u) e))) at
          ∙ ap (next_kind x.input (forks l (now u).homes e)) (nothing_done u e past)
          ∙ first_next x.input (forks l (now u).homes e)

      new_one : length (d u).homes < e → assigns (new u) e ≡ true → HasTask l (more u) (now u) e (tasks e)
      new_one past is =
          let x = u.laws.homes e is in
          let s = so.fresh e x.home past x.homed in
          subst (λ o. AreTasks (standing (more u)) (new u) (now u).homes e (present_kind l (more u) (now u) e) o) (sym s.1)
          (subst (λ o. AreTasks (standing (more u)) (new u) (now u).homes e o (Some s.0)) (sym (present_new x.home past is x.homed)) s.2)

      go : (b : Bool) → assigns (new u) e ≡ b → (length (d u).homes < e) ⊎ (e ≤ length (d u).homes) → HasTask l (more u) (now u) e (tasks e)
      go true is (inl past) = new_one past is
      go true is (inr le) = old le is
      go false is (inr le) = none is (absent is le)
      go false is (inl past) = none is (so.others e (above (cases_lt (length (now u).homes) e)))
        where
          above : (length (now u).homes < e) ⊎ (e ≤ length (now u).homes) → length (now u).homes < e
          above (inl lt) = lt
          above (inr le) = absurd (false≢true (sym is ∙ u.laws.given e past le))
