-- The new executions of a planned update, by their numbers, and their first tasks.
use Rattle.std.proofs.Common.{◌≡◌, ℕ, suc, ◌<◌, ◌≤◌, false, not, ◌&&◌, List, [], ◌∷◌, length, Some, None, refl, ap, ◌∙◌, arith, sym}
use Rattle.std.specs.Option.{option_map_or}
use Rattle.text_words.specs.Members.{has}
use Rattle.doc_nodes.specs.Imports.{NodeList}
use Rattle.core_tables.specs.Changes.{waiting}
use Rattle.exec_rules.specs.declared.home.Home.{Home}
use Rattle.exec_rules.specs.Kept.{BlobList}
use Rattle.exec_rules.specs.declared.home.Input.TheVariants as input
use Rattle.exec_rules.specs.declared.home.Input.{Input}
use Rattle.language.specs.Lang.{Lang}
use Rattle.core_rules.specs.declared.event.Event.{Event}
use Rattle.core_rules.specs.Numbered.{numbered, grown}
use Rattle.core_rules.specs.Assigned.{assigns, is_visible}
use Rattle.core_rules.specs.Doc.{assignment_of}
use Rattle.core_rules.specs.Parts.{waits_by, sources_of, evaluation}
use Rattle.core_rules.specs.Standing.{standing, is_finished}
use Rattle.core_rules.specs.Ready.{priority_by}
use Rattle.core_rules.proofs.KnownNumbers.{length_grown}
use Rattle.update_plans.specs.declared.beginning.Fresh.{Fresh}
use Rattle.update_plans.specs.Begun.{first_kind}
use Rattle.prover_core.specs.Plans.{ranked}
use Rattle.prover_core.specs.Fresh.{fresh_at}
use Rattle.prover_core.specs.Kept.{Tables}
use Rattle.prover_core.specs.Progress.{part}
use Rattle.prover_core.specs.Tasks.{is_held, IsTaskOf}
use Rattle.prover_core.proofs.FreshPlan.{homes_in, Found, none_before, none_behind, found}
use Rattle.prover_core.proofs.UpdateTables.{not_tip}
use Rattle.prover_core.proofs.RankedTasks.{ranked_same, ranked_held, ranked_inputs, ranked_urgent}
use Rattle.prover_core.proofs.UpdateFacts.{Updating, IsPlanned, d, more, now, new}

length_map : (fresh : List Fresh) → length (homes_in fresh) ≡ length fresh
length_map [] = refl
length_map (f ∷ fresh) = ap suc (length_map fresh)

module _ {S : Type 0} {l : Lang S} {h : List Event} {t : Tables S} {id : ℕ} {nodes : NodeList} {blobs : BlobList} {u : Updating l h t id nodes blobs}
    {dropped : List ℕ} {fresh : List Fresh} (p : IsPlanned u dropped fresh) where
  pub fresh_none : (e : ℕ) → e ≤ length (d u).homes → fresh_at fresh e ≡ None
  fresh_none e le = none_before h (suc (length (d u).homes)) e fresh p.are (omega (arith, le))

  pub fresh_behind : (e : ℕ) → length (now u).homes < e → fresh_at fresh e ≡ None
  fresh_behind e past = none_behind h (suc (length (d u).homes)) e fresh p.are
      (omega (arith, past, length_grown (d u).homes (assignment_of (d u) nodes blobs).homes, ap (λ (xs : List Home). length xs) p.homes_are, length_map fresh))

  pub beyond_old : (e : ℕ) → length (now u).homes < e → length (d u).homes < e
  beyond_old e past = omega (arith, past, length_grown (d u).homes (assignment_of (d u) nodes blobs).homes)

  pub fresh_found : (e : ℕ) (x : Home) → length (d u).homes < e → numbered (now u).homes e ≡ Some x → Found h fresh e x
  fresh_found e x past at = found h (d u).homes fresh p.are e x past (ap (λ hs. numbered (grown (d u).homes hs) e) p.homes_are ∙ at)

  pub not_dropped : (e : ℕ) → length (d u).homes < e → has dropped e ≡ false
  not_dropped e past = p.drops e
      ∙ ap (λ b. b && not (assigns (new u) e)) (not_tip u e past)

  waits_first : (i : Input) (e : ℕ) → waits_by (now u).homes (first_kind i) e
      ≡ option_map_or (λ (y : Home). sources_of y.input) (numbered (now u).homes e) []
  waits_first (input.First head) e = refl
  waits_first (input.Next f) e = refl
  waits_first (input.Print f) e = refl

  waits_new : (e : ℕ) (x : Home) → numbered (now u).homes e ≡ Some x → waits_by (now u).homes (first_kind x.input) e ≡ sources_of x.input
  waits_new e x at = waits_first x.input e ∙ ap (λ o. option_map_or (λ (y : Home). sources_of y.input) o []) at

  -- the task of a new execution, with its priority told anew or not
  pub plain_task : (e : ℕ) (x : Home) → length (d u).homes < e → numbered (now u).homes e ≡ Some x → (one : Found h fresh e x)
      → is_visible (new u) e ≡ false → IsTaskOf (standing (more u)) (new u) (now u).homes e (first_kind x.input) (waiting one.one.task)
  plain_task e x past at one hidden = record {
    same_kind = one.task.same_kind;
    urgent = one.task.urgent ∙ ap (priority_by (first_kind x.input)) (sym hidden);
    waits = λ f. one.task.waits f ∙ ap (λ ws. has ws f && not (is_finished h (evaluation f))) (sym (waits_new e x at));
    held = sym (ap is_held (u.laws.unmade (part e (first_kind x.input)) past));
  }

  pub seen_task : (e : ℕ) (x : Home) → length (d u).homes < e → numbered (now u).homes e ≡ Some x → (one : Found h fresh e x)
      → IsTaskOf (standing (more u)) (new u) (now u).homes e (first_kind x.input) (ranked (is_visible (new u) e) (waiting one.one.task))
  seen_task e x past at one = record {
    same_kind = ranked_same (is_visible (new u) e) (waiting one.one.task) ∙ one.task.same_kind;
    urgent = ranked_urgent (is_visible (new u) e) false (first_kind x.input) (waiting one.one.task) one.task.same_kind one.task.urgent;
    waits = λ f. ap (λ es. has es f) (ranked_inputs (is_visible (new u) e) (waiting one.one.task))
        ∙ one.task.waits f ∙ ap (λ ws. has ws f && not (is_finished h (evaluation f))) (sym (waits_new e x at));
    held = ranked_held (is_visible (new u) e) (waiting one.one.task)
        ∙ sym (ap is_held (u.laws.unmade (part e (first_kind x.input)) past));
  }
