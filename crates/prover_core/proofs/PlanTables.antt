-- The tables of executions that a planned update leaves are those of the document with the new version.
use Rattle.std.proofs.Common.{◌≡◌, ℕ, cond, List, Option, Some, refl, ap, ◌∙◌}
use Rattle.std.specs.Option.{option_map_or}
use Rattle.text_words.specs.Members.{has}
use Rattle.doc_nodes.specs.Imports.{NodeList}
use Rattle.core_tables.specs.declared.execution.Execution.{Execution}
use Rattle.core_tables.specs.Finish.{after_cancelling}
use Rattle.exec_rules.specs.declared.home.Home.{Home}
use Rattle.exec_rules.specs.declared.home.Input.{Input}
use Rattle.exec_rules.specs.declared.home.Input.TheVariants as input
use Rattle.exec_rules.specs.Kept.{BlobList}
use Rattle.language.specs.Lang.{Lang}
use Rattle.core_rules.specs.declared.event.Event.{Event}
use Rattle.core_jobs.specs.declared.done.Done.{Done}
use Rattle.update_plans.specs.declared.beginning.Fresh.{Fresh}
use Rattle.update_plans.specs.Begun.{first_kind}
use Rattle.prover_core.specs.Plans.{begun_execution, begun_as}
use Rattle.prover_core.specs.Fresh.{with_fresh}
use Rattle.prover_core.specs.Kept.{Tables}
use Rattle.prover_core.proofs.UpdatedRows.{AreRows}
use Rattle.prover_core.proofs.UpdatedKept.{AreHomes}
use Rattle.prover_core.proofs.UpdateTables.{no_row, no_home}
use Rattle.prover_core.proofs.PlanFresh.{fresh_none, fresh_behind, beyond_old, fresh_found, not_dropped}
use Rattle.prover_core.proofs.UpdateFacts.{Updating, IsPlanned}

begun_same : {R : Type 0} (i : Input) → begun_as {R = R} (first_kind i) ≡ begun_execution i
begun_same (input.First head) = refl
begun_same (input.Next e) = refl
begun_same (input.Print e) = refl

module _ {S : Type 0} {l : Lang S} {h : List Event} {t : Tables S} {id : ℕ} {nodes : NodeList} {blobs : BlobList} {u : Updating l h t id nodes blobs}
    {dropped : List ℕ} {fresh : List Fresh} (p : IsPlanned u dropped fresh) where
  module _ (rows1 rows2 : ℕ → Option (Execution (Done S)))
      (drop : (e : ℕ) → rows1 e ≡ cond (has dropped e) (after_cancelling (t.rows e)) (t.rows e))
      (add : (e : ℕ) → rows2 e ≡ with_fresh (λ (one : Fresh). begun_as one.task.part.kind) fresh rows1 e) where
    abbrev put : Option Fresh → Option (Execution (Done S)) → Option (Execution (Done S))
    put o row = option_map_or (λ (one : Fresh). Some (begun_as one.task.part.kind)) o row

    pub rows_are : AreRows u rows2
    rows_are = record {
      old = λ e le. add e ∙ ap (λ o. put o (rows1 e)) (fresh_none p e le) ∙ drop e
          ∙ ap (λ b. cond b (after_cancelling (t.rows e)) (t.rows e)) (p.drops e);
      fresh = λ e x past at.
          let one = fresh_found p e x past at in
          add e ∙ ap (λ o. put o (rows1 e)) one.at
          ∙ ap (λ y. Some (begun_as y)) one.task.same_kind
          ∙ ap (λ y. Some y) (begun_same x.input);
      others = λ e past. add e ∙ ap (λ o. put o (rows1 e)) (fresh_behind p e past) ∙ drop e
          ∙ ap (λ b. cond b (after_cancelling (t.rows e)) (t.rows e)) (not_dropped p e (beyond_old p e past))
          ∙ no_row u e (beyond_old p e past);
    }

  module _ (homes : ℕ → Option Home) (add : (e : ℕ) → homes e ≡ with_fresh (λ (one : Fresh). one.known.home) fresh t.homes e) where
    abbrev put_home : Option Fresh → Option Home → Option Home
    put_home o home = option_map_or (λ (one : Fresh). Some one.known.home) o home

    pub homes_then : AreHomes u homes
    homes_then = record {
      old = λ e le. add e ∙ ap (λ o. put_home o (t.homes e)) (fresh_none p e le);
      fresh = λ e x past at.
          let one = fresh_found p e x past at in
          add e ∙ ap (λ o. put_home o (t.homes e)) one.at ∙ ap (λ y. Some y) one.home;
      others = λ e past. add e ∙ ap (λ o. put_home o (t.homes e)) (fresh_behind p e past)
          ∙ no_home u e (beyond_old p e past);
    }
