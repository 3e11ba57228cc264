-- What is kept once an execution is cancelled.
use Rattle.std.proofs.Common.{◌≡◌, ℕ, ◌≤◌, Bool, true, false, cond, not, ◌&&◌, ◌||◌, List, [], ◌∷◌, ◌++◌, Option, Some, None, refl, ap, sym, subst, ◌∙◌, arith}
use Rattle.std.proofs.lemmas.Bool.{eqb-true, eq-eqb, false≢true}
use Rattle.std.specs.Prelude.{◌==◌, ◌+◌}
use Rattle.std.proofs.Math.Bool.{and-false, or-false, or-true}
use Rattle.text_words.specs.Members.{has}
use Rattle.text_words.proofs.KnownLists.{differ_turned}
use Rattle.pide_base.specs.declared.part.PartKind.{PartKind}
use Rattle.core_tables.specs.declared.execution.Execution.{Execution}
use Rattle.core_tables.specs.Finish.{after_cancelling}
use Rattle.core_tables.specs.declared.task.Standing.{Standing as Task}
use Rattle.core_tables.specs.Ready.{with_standing}
use Rattle.language.specs.Lang.{Lang}
use Rattle.core_rules.specs.declared.event.Event.{Event}
use Rattle.core_rules.specs.declared.event.Event.TheVariants.{Cancel}
use Rattle.core_rules.specs.Numbered.{numbered}
use Rattle.core_rules.specs.Assigned.{assigns, is_assigned}
use Rattle.core_rules.specs.Settings.{setting}
use Rattle.core_rules.specs.Standing.{standing, is_open, has_ended}
use Rattle.core_rules.specs.Doc.{Doc, doc}
use Rattle.core_jobs.specs.declared.done.Done.{Done}
use Rattle.prover_core.specs.Progress.{completed_in, next_of, row_by, row_of}
use Rattle.prover_core.specs.Tasks.{AreTasks, HasTask}
use Rattle.prover_core.specs.Kept.{Tables, IsKept, IsKnown}
use Rattle.prover_core.proofs.OpenRows.{row_known, row_with_mark}
use Rattle.prover_core.proofs.Noted.{noted_too}
use Rattle.prover_core.proofs.CancelTold.{row as told_row, after_told as told_after}

module _ {S : Type 0} (l : Lang S) (h : List Event) (t : Tables S) (k : IsKept l h t) (e : ℕ) where
  abbrev d : Doc
  d = doc l h

  abbrev more : List Event
  more = Cancel e ∷ h

  abbrev opened : Bool
  opened = is_open l h d.homes e

  abbrev row : IsKnown l d.homes e → Execution (Done S)
  row x = told_row l h t k e x

  after_told : (live : is_assigned d.live e ≡ true) → after_cancelling (t.rows e)
      ≡ Some (cond (has d.cancelled e || not opened) (row (k.known e live)) (record (row (k.known e live)) { cancelled = true }))
  after_told live = told_after l h t k e live

  -- what is cancelled then
  marked_idle : (f : ℕ) → (has d.cancelled e || not opened) ≡ true → has (doc l more).cancelled f ≡ has d.cancelled f
  marked_idle f is = go opened is (f == e) refl
    where
      go : (b : Bool) → (has d.cancelled e || not b) ≡ true → (same : Bool) → (f == e) ≡ same
          → has (cond b (e ∷ d.cancelled) d.cancelled) f ≡ has d.cancelled f
      go false x same y = refl
      go true x false y = ap (λ b. b || has d.cancelled f) y
      go true x true y = ap (λ b. b || has d.cancelled f) y ∙ sym (ap (has d.cancelled) (eqb-true f e y) ∙ sym (or-false (has d.cancelled e)) ∙ x)

  marked : (f : ℕ) → (has d.cancelled e || not opened) ≡ false → has (doc l more).cancelled f ≡ ((f == e) || has d.cancelled f)
  marked f is = go opened is
    where
      go : (b : Bool) → (has d.cancelled e || not b) ≡ false → has (cond b (e ∷ d.cancelled) d.cancelled) f ≡ ((f == e) || has d.cancelled f)
      go true x = refl
      go false x = absurd (false≢true (sym x ∙ or-true (has d.cancelled e)))

  homed : (f : ℕ) → is_assigned d.live f ≡ true → IsKnown l (doc l more).homes f
  homed f live = k.known f live

  -- the other tables, where rows and tasks are right
  pub kept_with : (rows : ℕ → Option (Execution (Done S))) (tasks : ℕ → Option Task) (room count : ℕ) (cancelled : List ℕ) (spare : ℕ) → has_ended h ≡ false
      → is_assigned d.live e ≡ true → ((f : ℕ) → rows f ≡ row_of l more (doc l more) f)
      → ((f : ℕ) → HasTask l more (doc l more) f (tasks f)) → t.room ≤ room
      → ((f : ℕ) → has cancelled f ≡ (assigns d.tip f && has (doc l more).cancelled f)) → count ≤ spare
      → IsKept l more (record t { rows = rows; tasks = tasks; room = room; count = count; cancelled = cancelled; spare = spare })
  kept_with rows tasks room count cancelled spare going live are have fits noted can_note = record {
    legal = (k.legal, (going, live));
    start_is = k.start_is;
    live = k.live;
    tip = k.tip;
    rows_fit = k.rows_fit;
    losses = k.losses;
    next_is = k.next_is;
    within = k.within;
    rows = are;
    homes = k.homes;
    known = homed;
    in_order = k.in_order;
    holders = k.holders;
    held_next = k.held_next;
    tasks = have;
    ended = k.ended;
    cancelled = noted;
    room = omega (arith, fits, k.room);
    spare = can_note;
  }

  abbrev row_with : ℕ → Bool → Option (Execution (Done S))
  row_with f b = cond (is_assigned d.live f) (row_by l b f (completed_in h f) (numbered d.homes f) (setting l d.homes f)) None

  abbrev present_with : ℕ → Bool → Option PartKind
  present_with f b = cond (assigns d.tip f && not b) (next_of l h d f) None

  -- where nothing is left to cancel, all stays
  pub idle_kept : (rows : ℕ → Option (Execution (Done S))) → has_ended h ≡ false → (live : is_assigned d.live e ≡ true)
      → (has d.cancelled e || not opened) ≡ true
      → ((f : ℕ) → rows f ≡ cond (e == f) (after_cancelling (t.rows e)) (t.rows f))
      → IsKept l more (record t { rows = rows })
  idle_kept rows going live idle updates = kept_with rows t.tasks t.room t.count t.cancelled t.spare going live
      (λ f. updates f ∙ same f (e == f) refl ∙ k.rows f ∙ ap (row_with f) (sym (marked_idle f idle)))
      (λ f. subst (λ b. AreTasks (standing h) d.tip d.homes f (present_with f b) (t.tasks f)) (sym (marked_idle f idle)) (k.tasks f))
      (omega arith) (λ f. k.cancelled f ∙ ap (λ b. assigns d.tip f && b) (sym (marked_idle f idle))) k.spare
    where
      kept : after_cancelling (t.rows e) ≡ t.rows e
      kept = after_told live ∙ ap (λ b. Some (cond b (row (k.known e live)) (record (row (k.known e live)) { cancelled = true }))) idle
          ∙ sym (k.rows e ∙ row_known l h d e (k.known e live) live)

      same : (f : ℕ) (b : Bool) → (e == f) ≡ b → cond b (after_cancelling (t.rows e)) (t.rows f) ≡ t.rows f
      same f true is = kept ∙ ap t.rows (eqb-true e f is)
      same f false is = refl

  -- where an unfinished part is cancelled, its task goes, and it is noted
  pub cancelled_kept : (rows : ℕ → Option (Execution (Done S))) (tasks : ℕ → Option Task) (room count : ℕ) (cancelled : List ℕ) (spare : ℕ)
      → has_ended h ≡ false
      → (live : is_assigned d.live e ≡ true) → (has d.cancelled e || not opened) ≡ false
      → ((f : ℕ) → rows f ≡ cond (e == f) (after_cancelling (t.rows e)) (t.rows f))
      → ((f : ℕ) → tasks f ≡ with_standing t.tasks e None f) → t.room ≤ room
      → assigns d.tip e ≡ true → cancelled ≡ t.cancelled ++ e ∷ [] → count + 1 ≡ t.count → t.spare ≤ spare + 1
      → IsKept l more (record t { rows = rows; tasks = tasks; room = room; count = count; cancelled = cancelled; spare = spare })
  cancelled_kept rows tasks room count cancelled spare going live cancels updates gone fits there noted fewer less =
      kept_with rows tasks room count cancelled spare going live
      (λ f. updates f ∙ row_so f (e == f) refl)
      (λ f. subst (λ o. HasTask l more (doc l more) f o) (sym (gone f)) (task_so f (e == f) refl)) fits
      (λ f. ap (λ es. has es f) noted ∙ noted_too (assigns d.tip) d.cancelled e f _ (marked f cancels) t.cancelled there (k.cancelled f))
      (omega (arith, fewer, less, k.spare))
    where
      mine : after_cancelling (t.rows e) ≡ row_with e true
      mine = after_told live ∙ ap (λ b. Some (cond b (row (k.known e live)) (record (row (k.known e live)) { cancelled = true }))) cancels
          ∙ sym (row_with_mark l h d e true (k.known e live) live)

      itself : has (doc l more).cancelled e ≡ true
      itself = marked e cancels ∙ ap (λ b. b || has d.cancelled e) (eq-eqb e e refl)

      others : (f : ℕ) → (e == f) ≡ false → has (doc l more).cancelled f ≡ has d.cancelled f
      others f is = marked f cancels ∙ ap (λ b. b || has d.cancelled f) (differ_turned e f is)

      row_so : (f : ℕ) (b : Bool) → (e == f) ≡ b → cond b (after_cancelling (t.rows e)) (t.rows f) ≡ row_with f (has (doc l more).cancelled f)
      row_so f true is = mine ∙ ap (row_with e) (sym itself) ∙ ap (λ x. row_with x (has (doc l more).cancelled x)) (eqb-true e f is)
      row_so f false is = k.rows f ∙ ap (row_with f) (sym (others f is))

      task_so : (f : ℕ) (b : Bool) → (e == f) ≡ b → HasTask l more (doc l more) f (cond b None (t.tasks f))
      task_so f true is = subst (λ x. HasTask l more (doc l more) x None) (eqb-true e f is)
          (subst (λ o. AreTasks (standing h) d.tip d.homes e o None)
          (sym (ap (present_with e) itself ∙ ap (λ b. cond b (next_of l h d e) None) (and-false (assigns d.tip e)))) tt)
      task_so f false is = subst (λ b. AreTasks (standing h) d.tip d.homes f (present_with f b) (t.tasks f)) (sym (others f is)) (k.tasks f)
