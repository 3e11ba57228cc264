-- The new executions of a plan can be put into the tables.
use Rattle.std.proofs.Common.{◌≡◌, ℕ, suc, ◌<◌, Bool, true, false, cond, List, length, Option, Some, None, refl, ap, sym, ◌∙◌, arith}
use Rattle.std.specs.Option.{option_map, option_map_or}
use Rattle.std.proofs.lemmas.Option.{same_Some}
use Rattle.text_words.specs.Members.{has}
use Rattle.text_words.proofs.KnownMembers.{each_has}
use Rattle.doc_nodes.specs.Imports.{NodeList}
use Rattle.core_tables.specs.declared.execution.Execution.{Execution}
use Rattle.core_tables.specs.Finish.{after_cancelling}
use Rattle.core_tables.specs.declared.task.Standing.{Standing as Task}
use Rattle.exec_rules.specs.declared.home.Home.{Home}
use Rattle.exec_rules.specs.Kept.{BlobList}
use Rattle.language.specs.Lang.{Lang}
use Rattle.core_rules.specs.declared.event.Event.{Event}
use Rattle.core_rules.specs.Numbered.{numbered, grown}
use Rattle.core_rules.specs.Parts.{sources_of}
use Rattle.core_rules.specs.Sources.{IsSource}
use Rattle.core_jobs.specs.declared.done.Done.{Done}
use Rattle.update_plans.specs.declared.known.Known.{Known}
use Rattle.update_plans.specs.declared.beginning.Fresh.{Fresh}
use Rattle.prover_core.specs.Fresh.{AreNew}
use Rattle.prover_core.specs.Kept.{Tables}
use Rattle.core_rules.proofs.KnownNumbers.{numbered_within}
use Rattle.prover_core.proofs.FreshPlan.{homes_in, rise}
use Rattle.prover_core.proofs.UpdateTables.{no_row, no_home, no_task, nobody_waits}
use Rattle.prover_core.proofs.UpdateFacts.{Updating, IsPlanned, d, now, new}

module _ {S : Type 0} {l : Lang S} {h : List Event} {t : Tables S} {id : ℕ} {nodes : NodeList} {blobs : BlobList} {u : Updating l h t id nodes blobs}
    {dropped : List ℕ} {fresh : List Fresh} (p : IsPlanned u dropped fresh) where
  older : (e : ℕ) (x : Home) → length (d u).homes < e → numbered (grown (d u).homes (homes_in fresh)) e ≡ Some x → (q : ℕ)
      → has (sources_of x.input) q ≡ true → q < e
  older e x past at q is =
      let there : numbered (now u).homes e ≡ Some x = ap (λ hs. numbered (grown (d u).homes hs) e) (sym p.homes_are) ∙ at in
      let own = u.laws.homes e (u.laws.given e past (numbered_within (now u).homes e x there)) in
      let it : own.home ≡ x = same_Some own.home x (sym own.homed ∙ there) in
      (each_has (IsSource (now u) (new u) e) (sources_of own.home.input) q own.sources
      (ap (λ (y : Home). has (sources_of y.input) q) it ∙ is)).older

  none_by : (b : Bool) (o : Option (Execution (Done S))) → o ≡ None → cond b (after_cancelling o) o ≡ None
  none_by true o is = ap after_cancelling is
  none_by false o is = is

  none_task : (b : Bool) (o : Option Task) → o ≡ None → cond b None o ≡ None
  none_task true o is = refl
  none_task false o is = is

  none_waits : (e : ℕ) (b : Bool) (o : Option Task) → option_map_or (λ (s : Task). has s.inputs e) o false ≡ false
      → option_map_or (λ (s : Task). has s.inputs e) (cond b None o) false ≡ false
  none_waits e true o is = refl
  none_waits e false o is = is

  none_known : (o : Option Known) → option_map (λ (x : Known). x.home) o ≡ None → o ≡ None
  none_known None is = refl
  none_known (Some x) is = absurd (cc)

  pub fresh_new : (rows1 : ℕ → Option (Execution (Done S))) (known : ℕ → Option Known) (tasks1 : ℕ → Option Task)
      → ((e : ℕ) → rows1 e ≡ cond (has dropped e) (after_cancelling (t.rows e)) (t.rows e))
      → ((e : ℕ) → option_map (λ (x : Known). x.home) (known e) ≡ t.homes e)
      → ((e : ℕ) → tasks1 e ≡ cond (has dropped e) None (t.tasks e)) → AreNew fresh rows1 known tasks1
  fresh_new rows1 known tasks1 rows homes tasks = record {
    first = suc (length (d u).homes);
    rises = rise h (d u).homes fresh p.are older;
    no_rows = λ e le. rows e ∙ none_by (has dropped e) (t.rows e) (no_row u e (omega (arith, le)));
    no_homes = λ e le. none_known (known e) (homes e ∙ no_home u e (omega (arith, le)));
    no_tasks = λ e le. tasks e ∙ none_task (has dropped e) (t.tasks e) (no_task u e (omega (arith, le)));
    waiters = λ e f le. ap (λ o. option_map_or (λ (s : Task). has s.inputs e) o false) (tasks f)
        ∙ none_waits e (has dropped f) (t.tasks f) (nobody_waits u e f (omega (arith, le)));
  }
