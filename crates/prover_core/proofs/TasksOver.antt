-- The tasks of executions that the version before had as well.
use Rattle.std.proofs.Common.{◌≡◌, ℕ, ◌≤◌, Bool, true, false, cond, not, ◌&&◌, List, [], length, Option, Some, None, refl, ap, sym, ◌∙◌}
use Rattle.std.proofs.lemmas.Bool.{false≢true}
use Rattle.std.specs.Option.{option_map, option_map_or, option_and_then}
use Rattle.text_words.specs.Members.{has}
use Rattle.pide_base.specs.declared.part.PartKind.{PartKind}
use Rattle.pide_base.specs.declared.part.PartKind.TheVariants as kind
use Rattle.doc_nodes.specs.Imports.{NodeList}
use Rattle.core_tables.specs.declared.task.Standing.{Standing as Task}
use Rattle.exec_rules.specs.declared.home.Home.{Home}
use Rattle.exec_rules.specs.Kept.{BlobList}
use Rattle.language.specs.Lang.{Lang}
use Rattle.core_rules.specs.declared.event.Event.{Event}
use Rattle.core_rules.specs.Numbered.{numbered}
use Rattle.core_rules.specs.Assigned.{assigns, is_visible}
use Rattle.core_rules.specs.Settings.{made_of}
use Rattle.core_rules.specs.Parts.{forks, waits_by, sources_of, evaluation}
use Rattle.core_rules.specs.Standing.{standing, is_done}
use Rattle.core_rules.specs.Ready.{priority_by}
use Rattle.prover_core.specs.Progress.{completed_in, next_kind, next_of}
use Rattle.prover_core.specs.Tasks.{present_kind, IsTaskOf, AreTasks}
use Rattle.prover_core.specs.Plans.{ranked}
use Rattle.prover_core.specs.Kept.{Tables}
use Rattle.prover_core.proofs.RankedTasks.{ranked_same, ranked_held, ranked_inputs, ranked_urgent}
use Rattle.prover_core.proofs.UpdatedDoc.{same_home, same_setting, not_cancelled}
use Rattle.prover_core.proofs.UpdateFacts.{Updating, d, more, now, new}

module _ {S : Type 0} {l : Lang S} {h : List Event} {t : Tables S} {id : ℕ} {nodes : NodeList} {blobs : BlobList} (u : Updating l h t id nodes blobs) where
  pub next_old : (e : ℕ) → e ≤ length (d u).homes → next_of l (more u) (now u) e ≡ next_of l h (d u) e
  next_old e le =
      ap (λ s. option_and_then (λ (x : Home). next_kind x.input (option_map_or (λ w. (made_of l w).forks) s false) (completed_in h e))
      (numbered (now u).homes e)) (same_setting u e le)
      ∙ ap (option_and_then (λ (x : Home). next_kind x.input (forks l (d u).homes e) (completed_in h e)))
      (same_home u e le)

  pub present_old : (e : ℕ) → e ≤ length (d u).homes → assigns (new u) e ≡ true → present_kind l (more u) (now u) e ≡ present_kind l h (d u) e
  present_old e le is =
      ap (λ b. cond (assigns (new u) e && not b) (next_of l (more u) (now u) e) None) (not_cancelled u e is)
      ∙ ap (λ b. cond (b && true) (next_of l (more u) (now u) e) None) is
      ∙ next_old e le
      ∙ sym (ap (λ b. cond (assigns (d u).tip e && not b) (next_of l h (d u) e) None) (was_not (has (d u).cancelled e) refl)
      ∙ ap (λ b. cond (b && true) (next_of l h (d u) e) None) (u.laws.kept e is le))
    where
      was_not : (b : Bool) → has (d u).cancelled e ≡ b → b ≡ false
      was_not false x = refl
      was_not true x = absurd (false≢true (sym (u.laws.not_again e x) ∙ is))

  waits_old : (e : ℕ) (x : PartKind) → e ≤ length (d u).homes → waits_by (now u).homes x e ≡ waits_by (d u).homes x e
  waits_old e kind.Fork le = refl
  waits_old e kind.Eval le = ap (λ o. option_map_or (λ (y : Home). sources_of y.input) o []) (same_home u e le)
  waits_old e kind.Print le = ap (λ o. option_map_or (λ (y : Home). sources_of y.input) o []) (same_home u e le)

  ranked_task : (e : ℕ) (x : PartKind) (s : Task) → e ≤ length (d u).homes → IsTaskOf (standing h) (d u).tip (d u).homes e x s
      → IsTaskOf (standing (more u)) (new u) (now u).homes e x (ranked (is_visible (new u) e) s)
  ranked_task e x s le task = record {
    same_kind = ranked_same (is_visible (new u) e) s ∙ task.same_kind;
    urgent = ranked_urgent (is_visible (new u) e) (is_visible (d u).tip e) x s task.same_kind task.urgent;
    waits = λ f. ap (λ es. has es f) (ranked_inputs (is_visible (new u) e) s) ∙ task.waits f
        ∙ ap (λ ws. has ws f && not (is_done (standing h (evaluation f)))) (sym (waits_old e x le));
    held = ranked_held (is_visible (new u) e) s ∙ task.held;
  }

  same_task : (e : ℕ) (x : PartKind) (s : Task) → e ≤ length (d u).homes → is_visible (new u) e ≡ is_visible (d u).tip e
      → IsTaskOf (standing h) (d u).tip (d u).homes e x s → IsTaskOf (standing (more u)) (new u) (now u).homes e x s
  same_task e x s le sees task = record {
    same_kind = task.same_kind;
    urgent = task.urgent ∙ ap (priority_by x) (sym sees);
    waits = λ f. task.waits f ∙ ap (λ ws. has ws f && not (is_done (standing h (evaluation f)))) (sym (waits_old e x le));
    held = task.held;
  }

  pub ranked_are : (e : ℕ) (o : Option PartKind) (s : Option Task) → e ≤ length (d u).homes → AreTasks (standing h) (d u).tip (d u).homes e o s
      → AreTasks (standing (more u)) (new u) (now u).homes e o (option_map (ranked (is_visible (new u) e)) s)
  ranked_are e None None le are = are
  ranked_are e None (Some s) le are = absurd (are)
  ranked_are e (Some x) None le are = absurd (are)
  ranked_are e (Some x) (Some s) le are = ranked_task e x s le are

  pub same_are : (e : ℕ) (o : Option PartKind) (s : Option Task) → e ≤ length (d u).homes → is_visible (new u) e ≡ is_visible (d u).tip e
      → AreTasks (standing h) (d u).tip (d u).homes e o s → AreTasks (standing (more u)) (new u) (now u).homes e o s
  same_are e None None le sees are = are
  same_are e None (Some s) le sees are = absurd (are)
  same_are e (Some x) None le sees are = absurd (are)
  same_are e (Some x) (Some s) le sees are = same_task e x s le sees are
