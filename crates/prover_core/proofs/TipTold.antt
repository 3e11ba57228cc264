-- Of what the tip assigns, the table of executions tells what is cancelled.
use Rattle.std.proofs.Common.{◌≡◌, ℕ, false, cond, List, Option, Some, None, ap, sym, ◌∙◌}
use Rattle.std.specs.Option.{option_map, option_map_or}
use Rattle.text_words.specs.Members.{has}
use Rattle.core_tables.specs.declared.execution.Execution.{Execution}
use Rattle.core_tables.specs.Rows.{Row as TableRow, execution_of}
use Rattle.exec_rules.specs.declared.home.Home.{Home}
use Rattle.exec_assign.specs.Agreeing.{AgreeAt}
use Rattle.language.specs.Lang.{Lang}
use Rattle.core_rules.specs.declared.event.Event.{Event}
use Rattle.core_rules.specs.Numbered.{numbered}
use Rattle.core_rules.specs.Settings.{Setting, setting}
use Rattle.core_rules.specs.Doc.{Doc, doc}
use Rattle.core_jobs.specs.declared.done.Done.{Done}
use Rattle.update_plans.specs.Cancelled.{cancelled_in, IsQuiet as Quiet}
use Rattle.update_plans.proofs.KnownCancelled.{has_cancelled}
use Rattle.prover_core.specs.Progress.{completed_in, execution_by, row_by}
use Rattle.prover_core.specs.Kept.{Tables, IsKnown, IsKept}
use Rattle.prover_core.proofs.TipLive.{tip_live}
use Rattle.prover_core.proofs.QuietParts.{IsQuiet}

module _ {S : Type 0} (l : Lang S) (h : List Event) (t : Tables S) (k : IsKept l h t)
    (rows : List (TableRow (Done S))) (are : (e : ℕ) → execution_of rows e ≡ t.rows e) where
  abbrev d : Doc
  d = doc l h

  row_cancelled : (e : ℕ) (o : Option Home) (s : Option (Setting S)) (x : Home) (y : Setting S) → o ≡ Some x → s ≡ Some y
      → option_map_or (λ (one : Execution (Done S)). one.cancelled) (row_by l (has d.cancelled e) e (completed_in h e) o s) false ≡ has d.cancelled e
  row_cancelled e o s x y homed set =
      ap (λ p. option_map_or (λ (one : Execution (Done S)). one.cancelled) (row_by l (has d.cancelled e) e (completed_in h e) p s) false) homed
      ∙ ap (λ p. option_map_or (λ (one : Execution (Done S)). one.cancelled) (option_map (execution_by l (has d.cancelled e) e (completed_in h e) x) p) false) set

  pub agree : AgreeAt d.tip (cancelled_in rows) d.cancelled
  agree e is =
      let there = tip_live l h t k e is in
      let known : IsKnown l d.homes e = k.known e there in
      has_cancelled rows e
      ∙ ap (λ (o : Option (Execution (Done S))). option_map_or (λ (one : Execution (Done S)). one.cancelled) o false) (are e ∙ k.rows e)
      ∙ ap (λ b. option_map_or (λ (one : Execution (Done S)). one.cancelled)
      (cond b (row_by l (has d.cancelled e) e (completed_in h e) (numbered d.homes e) (setting l d.homes e)) None) false) there
      ∙ row_cancelled e (numbered d.homes e) (setting l d.homes e) known.home known.works_on known.homed known.setting_is

  -- where nothing that the tip assigns is cancelled, the table tells so
  pub quiet_tip : IsQuiet d → Quiet rows d.tip
  quiet_tip quiet e is = sym (has_cancelled rows e) ∙ agree e is ∙ quiet e is
