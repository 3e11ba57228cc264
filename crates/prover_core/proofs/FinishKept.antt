-- What is kept once what came of a part is taken in.
use Rattle.std.proofs.Common.{◌≡◌, ◌≢◌, ℕ, ◌≤◌, Bool, true, false, cond, List, ◌∷◌, Option, Some, None, ap, sym, ◌∙◌}
use Rattle.std.specs.Prelude.{◌==◌}
use Rattle.std.specs.Option.{option_map, option_map_or, option_and_then}
use Rattle.pide_base.specs.declared.part.Part.{Part}
use Rattle.pide_base.specs.declared.part.PartKind.TheVariants as kind
use Rattle.core_tables.specs.declared.execution.Execution.{Execution}
use Rattle.core_tables.specs.declared.execution.Done.{Done as Brought}
use Rattle.core_tables.specs.Finish.{finished_in}
use Rattle.core_tables.specs.declared.task.Standing.{Standing as Task}
use Rattle.text_words.specs.Members.{has}
use Rattle.core_tables.specs.Changes.{without}
use Rattle.language.specs.Lang.{Lang}
use Rattle.core_rules.specs.declared.event.Event.{Event}
use Rattle.core_rules.specs.declared.event.Event.TheVariants.{Finished}
use Rattle.core_rules.specs.Parts.{same_kind}
use Rattle.core_rules.specs.Standing.{held}
use Rattle.core_rules.specs.Doc.{doc}
use Rattle.core_rules.specs.Ready.{is_wanted}
use Rattle.core_jobs.specs.declared.done.Done.{Done}
use Rattle.core_jobs.specs.Fits.{IsDoneOf}
use Rattle.prover_core.specs.Brought.{brought, forks_told}
use Rattle.prover_core.specs.Progress.{kind_behind}
use Rattle.prover_core.specs.Tasks.{task_behind}
use Rattle.prover_core.specs.Kept.{Tables, IsKept}
use Rattle.prover_core.proofs.BroughtRows.{right_for, now, can_finish, row_then, behind_is}
use Rattle.prover_core.proofs.FinishFacts.{Finishing}
use Rattle.prover_core.proofs.FinishedKept.{finished_kept}
use Rattle.prover_core.proofs.FinishedPart.{behind_eval}
use Rattle.prover_core.proofs.FinishedTasks.{tasks_then}
use Rattle.prover_core.proofs.TipLive.{Laws}

module _ {S : Type 0} (l : Lang S) (h : List Event) (t : Tables S) (k : IsKept l h t) (laws : Laws l h) (who : ℕ) (p : Part) (done : Done S)
    (same : p ≡ done.part) (holds : held h who ≡ Some p) (wanted : is_wanted (doc l h) p.exec ≡ true)
    (right : IsDoneOf l (doc l h).homes done) (x : Brought (Done S)) (f : Bool) (x_is : x ≡ brought done.part.kind done f) (f_is : f ≡ forks_told done) where
  finishing : Finishing l h t who p
  finishing = record { kept = k; laws = laws; holds = holds; wanted = wanted }

  x_for : x ≡ brought p.kind done (forks_told done)
  x_for = x_is ∙ ap (brought done.part.kind done) f_is ∙ ap (λ (q : Part). brought q.kind done (forks_told done)) (sym same)

  then : option_and_then (finished_in x) (t.rows p.exec) ≡ Some (now l h t k who p done holds wanted (right_for l (doc l h).homes p done same right))
  then = ap (λ y. option_and_then (finished_in y) (t.rows p.exec)) x_for
      ∙ can_finish l h t k who p done holds wanted (right_for l (doc l h).homes p done same right)

  -- the table of executions takes it in
  pub is_taken_in : option_and_then (finished_in x) (t.rows p.exec)
      ≡ Some (now l h t k who p done holds wanted (right_for l (doc l h).homes p done same right))
  is_taken_in = then

  pub finish_kept : (rows : ℕ → Option (Execution (Done S))) (holders : ℕ → Option Part) (holding : ℕ) (tasks : ℕ → Option Task) (room count : ℕ)
      → ((e : ℕ) → rows e ≡ cond (p.exec == e) (option_and_then (finished_in x) (t.rows p.exec)) (t.rows e))
      → ((w : ℕ) → holders w ≡ cond (who == w) None (t.holders w))
      → tasks p.exec ≡ task_behind (kind_behind p.kind f)
      → (p.kind ≡ kind.Eval → (e : ℕ) → e ≢ p.exec → tasks e ≡ option_map (without p.exec) (t.tasks e))
      → (p.kind ≡ kind.Eval → (e : ℕ) → e ≢ p.exec → option_map_or (λ (s : Task). has s.inputs p.exec) (tasks e) false ≡ false)
      → (same_kind p.kind kind.Eval ≡ false → (e : ℕ) → e ≢ p.exec → tasks e ≡ t.tasks e) → holding ≤ room → count ≤ t.count
      → IsKept l (Finished who p ∷ h) (record t { rows = rows; holders = holders; holding = holding; tasks = tasks; room = room; count = count })
  finish_kept rows holders holding tasks room count updates out at waiters free others fits fewer =
      finished_kept finishing rows holders holding tasks room count
      (option_and_then (finished_in x) (t.rows p.exec))
      (then ∙ row_then l h t k who p done holds wanted (right_for l (doc l h).homes p done same right))
      updates out
      (tasks_then finishing tasks
      (at ∙ ap (λ b. task_behind (kind_behind p.kind b)) f_is
      ∙ ap task_behind (behind_is l h t k who p done holds wanted (right_for l (doc l h).homes p done same right)))
      waiters free others)
      (behind_eval finishing) fits fewer
