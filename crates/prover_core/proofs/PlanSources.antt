-- What new executions of a plan wait for is finished by the table where it is by what has happened.
use Rattle.std.proofs.Common.{◌≡◌, ◌⊎◌, inl, inr, ℕ, suc, ◌<◌, ◌≤◌, Bool, true, false, cond, not, ◌&&◌, List, [], ◌∷◌, length, Option, Some, None, refl, ap, sym, subst, ◌∙◌, arith}
use Rattle.std.proofs.lemmas.Bool.{cases_lt}
use Rattle.std.specs.Prelude.{is_some}
use Rattle.std.specs.Option.{option_map, option_and_then}
use Rattle.text_words.specs.Members.{has}
use Rattle.text_words.proofs.KnownMembers.{each_has}
use Rattle.text_words.proofs.KnownOptions.{one_of}
use Rattle.pide_base.specs.declared.part.PartKind.TheVariants as kind
use Rattle.doc_nodes.specs.Imports.{NodeList}
use Rattle.core_tables.specs.declared.execution.Execution.{Execution}
use Rattle.core_tables.specs.Rows.{Row, execution_of}
use Rattle.core_tables.specs.Progress.{result_of}
use Rattle.exec_rules.specs.declared.home.Home.{Home}
use Rattle.exec_rules.specs.Kept.{BlobList}
use Rattle.language.specs.Lang.{Lang}
use Rattle.core_rules.specs.declared.event.Event.{Event}
use Rattle.core_rules.specs.Numbered.{numbered, grown}
use Rattle.core_rules.specs.Assigned.{assigns}
use Rattle.core_rules.specs.Settings.{Setting, setting, made_of}
use Rattle.core_rules.specs.Parts.{sources_of, evaluation}
use Rattle.core_rules.specs.Standing.{is_done, is_finished}
use Rattle.core_rules.specs.Doc.{assignment_of}
use Rattle.core_rules.specs.Sources.{is_evaluation, IsSource, HasHome}
use Rattle.core_jobs.specs.declared.done.Done.{Done}
use Rattle.update_plans.specs.declared.beginning.Fresh.{Fresh}
use Rattle.update_plans.specs.Begun.{is_evaluated, IsBegun, AreBegun}
use Rattle.prover_core.specs.Progress.{completed_in, execution_by, row_by, result as brought}
use Rattle.prover_core.specs.Plans.{IsTaskFor, AreTasksFor}
use Rattle.prover_core.specs.Kept.{Tables, IsKnown}
use Rattle.prover_core.proofs.FreshPlan.{homes_in, tasks_in}
use Rattle.prover_core.proofs.GrownHomes.{number_grown}
use Rattle.prover_core.proofs.Olders.{numbered_last}
use Rattle.prover_core.proofs.UpdateTables.{no_row}
use Rattle.core_rules.proofs.KnownNumbers.{numbered_within}
use Rattle.prover_core.proofs.EvaluatedBy.{evaluated_by}
use Rattle.prover_core.proofs.UpdateFacts.{Updating, d, now, new}

module _ {S : Type 0} {l : Lang S} {h : List Event} {t : Tables S} {id : ℕ} {nodes : NodeList} {blobs : BlobList} (u : Updating l h t id nodes blobs)
    (rows : List (Row (Done S))) (are : (e : ℕ) → execution_of rows e ≡ t.rows e) where
  abbrev told : Option (Execution (Done S)) → Bool
  told o = is_some (option_and_then (λ (one : Execution (Done S)). result_of kind.Eval one.progress) o)

  row_told : (f : ℕ) (o : Option Home) (s : Option (Setting S)) (x : Home) (y : Setting S) → o ≡ Some x → s ≡ Some y → is_evaluation x.input ≡ true
      → told (row_by l (has (d u).cancelled f) f (completed_in h f) o s) ≡ is_finished h (evaluation f)
  row_told f o s x y homed set evaluates =
      ap (λ p. told (row_by l (has (d u).cancelled f) f (completed_in h f) p s)) homed
      ∙ ap (λ p. told (option_map (execution_by l (has (d u).cancelled f) f (completed_in h f) x) p)) set
      ∙ evaluated_by (brought l f y) (made_of l y).forks x.input (completed_in h f) evaluates

  old_told : (f : ℕ) (x : Home) → f ≤ length (d u).homes → assigns (d u).tip f ≡ true → numbered (now u).homes f ≡ Some x → is_evaluation x.input ≡ true
      → is_evaluated rows f ≡ is_finished h (evaluation f)
  old_told f x le is homed evaluates =
      let live = u.tip_live f is in
      let known : IsKnown l (d u).homes f = u.kept.known f live in
      let same : known.home ≡ x = one_of (numbered (d u).homes f) known.home x known.homed
      (sym (number_grown (d u).homes (assignment_of (d u) nodes blobs).homes f le) ∙ homed) in
      ap told (are f ∙ u.kept.rows f)
      ∙ ap (λ b. told (cond b (row_by l (has (d u).cancelled f) f (completed_in h f) (numbered (d u).homes f) (setting l (d u).homes f)) None)) live
      ∙ row_told f (numbered (d u).homes f) (setting l (d u).homes f) known.home known.works_on known.homed known.setting_is
      (ap (λ (y : Home). is_evaluation y.input) same ∙ evaluates)

  new_told : (f : ℕ) → length (d u).homes < f → is_evaluated rows f ≡ is_finished h (evaluation f)
  new_told f past =
      ap told (are f ∙ no_row u f past) ∙ sym (ap is_done (u.laws.unmade (evaluation f) past))

  -- the sources of a new execution
  pub sources_told : (e : ℕ) (x : Home) → length (d u).homes < e → numbered (now u).homes e ≡ Some x → (f : ℕ) → has (sources_of x.input) f ≡ true
      → is_evaluated rows f ≡ is_finished h (evaluation f)
  sources_told e x past at f is =
      let le = numbered_within (now u).homes e x at in
      let home : HasHome l (now u) (new u) e = u.laws.homes e (u.laws.given e past le) in
      let same : home.home ≡ x = one_of (numbered (now u).homes e) home.home x home.homed at in
      let source : IsSource (now u) (new u) e f =
      each_has (IsSource (now u) (new u) e) (sources_of home.home.input) f home.sources
      (ap (λ (y : Home). has (sources_of y.input) f) same ∙ is) in
      go (cases_lt (length (d u).homes) f) source
    where
      go : (length (d u).homes < f) ⊎ (f ≤ length (d u).homes) → IsSource (now u) (new u) e f
          → is_evaluated rows f ≡ is_finished h (evaluation f)
      go (inl past) source = new_told f past
      go (inr old) source = old_told f source.home old (u.laws.kept f source.assigned old) source.homed source.evaluates

-- the tasks of new executions are told by what has happened
module _ {R : Type 0} (h : List Event) (rows : List (Row R)) where
  pub homes_are : (n : ℕ) (homes : List Home) (fresh : List Fresh) → AreBegun rows n homes fresh → homes_in fresh ≡ homes
  homes_are n [] [] are = refl
  homes_are n [] (one ∷ fresh) are = absurd are
  homes_are n (x ∷ homes) [] are = absurd are
  homes_are n (x ∷ homes) (one ∷ fresh) are =
      ap (λ (y : Home). y ∷ homes_in fresh) are.0.home_is ∙ ap (λ (ys : List Home). x ∷ ys) (homes_are (suc n) homes fresh are.1)

  both_told : (a b c : Bool) → (a ≡ true → b ≡ c) → (a && not b) ≡ (a && not c)
  both_told true b c same = ap not (same refl)
  both_told false b c same = refl

  task_for : (e : ℕ) (x : Home) (one : Fresh) → IsBegun rows e x one
      → ((f : ℕ) → has (sources_of x.input) f ≡ true → is_evaluated rows f ≡ is_finished h (evaluation f)) → IsTaskFor h e one.known.home one.task
  task_for e x one begun told = subst (λ (y : Home). IsTaskFor h e y one.task) (sym begun.home_is) (record {
    exec = begun.task.exec;
    same_kind = begun.task.same_kind;
    urgent = begun.task.urgent;
    waits = λ f. begun.task.waits f
        ∙ both_told (has (sources_of x.input) f) (is_evaluated rows f) (is_finished h (evaluation f)) (told f);
  })

  pub tasks_for : (hs homes : List Home) (fresh : List Fresh) → AreBegun rows (suc (length hs)) homes fresh
      → ((e : ℕ) (x : Home) → length hs < e → numbered (grown hs homes) e ≡ Some x → (f : ℕ) → has (sources_of x.input) f ≡ true
      → is_evaluated rows f ≡ is_finished h (evaluation f)) → AreTasksFor h (suc (length hs)) (homes_in fresh) (tasks_in fresh)
  tasks_for hs [] [] are told = tt
  tasks_for hs [] (one ∷ fresh) are told = absurd are
  tasks_for hs (x ∷ homes) [] are told = absurd are
  tasks_for hs (x ∷ homes) (one ∷ fresh) are told = (
    task_for (suc (length hs)) x one are.0 (told (suc (length hs)) x (omega arith)
        (number_grown (x ∷ hs) homes (suc (length hs)) (omega arith) ∙ numbered_last x hs (suc (length hs)) refl)),
    tasks_for (x ∷ hs) homes fresh are.1 (λ e y lt at. told e y (omega (arith, lt)) at),
  )
