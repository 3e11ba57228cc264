-- What is kept where parts move from hand to hand and the document stays.
use Rattle.std.proofs.Common.{◌≡◌, ℕ, ◌≤◌, Bool, true, ◌&&◌, List, Option, Some, ap, sym, subst, ◌∙◌}
use Rattle.text_words.specs.Members.{has}
use Rattle.pide_base.specs.declared.part.Part.{Part}
use Rattle.core_tables.specs.declared.execution.Execution.{Execution}
use Rattle.core_tables.specs.declared.task.Standing.{Standing as Task}
use Rattle.exec_assign.specs.Fitting.{RowsFit}
use Rattle.language.specs.Lang.{Lang}
use Rattle.core_rules.specs.declared.event.Event.{Event}
use Rattle.core_rules.specs.Numbered.{next_number}
use Rattle.core_rules.specs.Assigned.{assigns, is_assigned}
use Rattle.core_rules.specs.Standing.{held, has_ended}
use Rattle.core_rules.specs.Doc.{Doc, doc}
use Rattle.core_rules.specs.Legal.{IsLegal}
use Rattle.core_jobs.specs.declared.done.Done.{Done}
use Rattle.version_losses.specs.Losses.{AreLosses}
use Rattle.prover_core.specs.Progress.{row_of, next_of, InOrder, completed_in}
use Rattle.prover_core.specs.Tasks.{HasTask}
use Rattle.prover_core.specs.Kept.{Tables, IsKept, IsKnown, home_of}

module _ {S : Type 0} (l : Lang S) (h more : List Event) (t : Tables S) (k : IsKept l h t) (same : doc l more ≡ doc l h) where
  pub kept_on : (rows : ℕ → Option (Execution (Done S))) (holders : ℕ → Option Part) (holding : ℕ) (tasks : ℕ → Option Task) (room count : ℕ) (ended : Bool)
      → IsLegal l more → ((e : ℕ) → rows e ≡ row_of l more (doc l more) e) → ((e : ℕ) → InOrder (completed_in more e))
      → ((who : ℕ) → holders who ≡ held more who)
      → ((who : ℕ) (p : Part) → held more who ≡ Some p → next_of l more (doc l more) p.exec ≡ Some p.kind)
      → ((e : ℕ) → HasTask l more (doc l more) e (tasks e)) → ended ≡ has_ended more → holding ≤ room → count ≤ t.spare
      → IsKept l more (record t { rows = rows; holders = holders; holding = holding; tasks = tasks; room = room; count = count; ended = ended })
  kept_on rows holders holding tasks room count ended legal rows_are in_order holders_are held_next tasks_are ends roomy spare = record {
    legal = legal;
    start_is = k.start_is;
    live = k.live ∙ ap (λ (d : Doc). d.live) (sym same);
    tip = k.tip ∙ ap (λ (d : Doc). d.tip) (sym same);
    rows_fit = subst (λ (d : Doc). RowsFit d.tip) (sym same) k.rows_fit;
    losses = subst (λ (d : Doc). AreLosses d.tip (next_number d.homes) 0 t.losses d.live) (sym same) k.losses;
    next_is = k.next_is ∙ ap (λ (d : Doc). next_number d.homes) (sym same);
    within = k.within;
    rows = rows_are;
    homes = λ e. k.homes e ∙ ap (λ (d : Doc). home_of d e) (sym same);
    known = subst (λ (d : Doc). (e : ℕ) → is_assigned d.live e ≡ true → IsKnown l d.homes e) (sym same) k.known;
    in_order = in_order;
    holders = holders_are;
    held_next = held_next;
    tasks = tasks_are;
    ended = ends;
    cancelled = λ e. k.cancelled e ∙ ap (λ (d : Doc). assigns d.tip e && has d.cancelled e) (sym same);
    room = roomy;
    spare = spare;
  }
