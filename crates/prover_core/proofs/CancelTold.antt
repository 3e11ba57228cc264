-- What is told of an execution that is to be cancelled.
use Rattle.std.proofs.Common.{◌≡◌, ℕ, Bool, true, false, cond, not, ◌&&◌, ◌||◌, List, ◌∷◌, Some, None, refl, ap, sym, ◌∙◌}
use Rattle.text_words.specs.Members.{has}
use Rattle.core_tables.specs.declared.execution.Execution.{Execution}
use Rattle.core_tables.specs.declared.execs.Cancelling.TheVariants as answer
use Rattle.core_tables.specs.Progress.{is_done}
use Rattle.core_tables.specs.Finish.{cancelling, after_cancelling}
use Rattle.language.specs.Lang.{Lang}
use Rattle.core_rules.specs.declared.event.Event.{Event}
use Rattle.core_rules.specs.declared.event.Event.TheVariants.{Cancel}
use Rattle.core_rules.specs.Numbered.{numbered}
use Rattle.core_rules.specs.Assigned.{is_assigned}
use Rattle.core_rules.specs.Settings.{setting}
use Rattle.core_rules.specs.Standing.{is_open}
use Rattle.core_rules.specs.Doc.{Doc, doc}
use Rattle.core_rules.specs.Ready.{is_wanted}
use Rattle.core_jobs.specs.declared.done.Done.{Done}
use Rattle.prover_core.specs.Progress.{completed_in, execution_by, row_by}
use Rattle.prover_core.specs.Kept.{Tables, IsKept, IsKnown}
use Rattle.prover_core.proofs.OpenRows.{row_known, done_closed}

module _ {S : Type 0} (l : Lang S) (h : List Event) (t : Tables S) (k : IsKept l h t) (e : ℕ) where
  abbrev d : Doc
  d = doc l h

  abbrev more : List Event
  more = Cancel e ∷ h

  abbrev pub opened : Bool
  opened = is_open l h d.homes e

  abbrev pub row : IsKnown l d.homes e → Execution (Done S)
  row x = execution_by l (has d.cancelled e) e (completed_in h e) x.home x.works_on

  -- where no live version has it
  pub unknown : cancelling (t.rows e) ≡ answer.Unknown → is_assigned d.live e ≡ false
  unknown is = go (is_assigned d.live e) refl
    where
      some_known : (x : Execution (Done S)) → cancelling (Some x) ≡ answer.Unknown → true ≡ false
      some_known x same = by (x.cancelled || is_done x.progress) same
        where
          by : (b : Bool) → cond b answer.Idle answer.Cancelled ≡ answer.Unknown → true ≡ false
          by true same = absurd (cc)
          by false same = absurd (cc)

      go : (b : Bool) → is_assigned d.live e ≡ b → b ≡ false
      go false x = refl
      go true x = some_known (row (k.known e x)) (ap cancelling (sym (k.rows e ∙ row_known l h d e (k.known e x) x)) ∙ is)

  -- what the table has, where it has something
  pub has_row : (is : cancelling (t.rows e) ≡ answer.Unknown → false ≡ true) → is_assigned d.live e ≡ true
  has_row is = go (is_assigned d.live e) refl
    where
      go : (b : Bool) → is_assigned d.live e ≡ b → b ≡ true
      go true x = refl
      go false x = is (ap cancelling (k.rows e
          ∙ ap (λ b. cond b (row_by l (has d.cancelled e) e (completed_in h e) (numbered d.homes e) (setting l d.homes e)) None) x))

  -- it is cancelled or not open, or neither
  pub told : (live : is_assigned d.live e ≡ true) → cancelling (t.rows e) ≡ cond (has d.cancelled e || not opened) answer.Idle answer.Cancelled
  told live = ap cancelling (k.rows e ∙ row_known l h d e (k.known e live) live)
      ∙ ap (λ b. cond (has d.cancelled e || b) answer.Idle answer.Cancelled) (done_closed l h d e (k.known e live))

  pub after_told : (live : is_assigned d.live e ≡ true) → after_cancelling (t.rows e)
      ≡ Some (cond (has d.cancelled e || not opened) (row (k.known e live)) (record (row (k.known e live)) { cancelled = true }))
  after_told live = ap after_cancelling (k.rows e ∙ row_known l h d e (k.known e live) live)
      ∙ ap (λ b. Some (cond (has d.cancelled e || b) (row (k.known e live)) (record (row (k.known e live)) { cancelled = true })))
      (done_closed l h d e (k.known e live))

  pub idle_so : (live : is_assigned d.live e ≡ true) → (has d.cancelled e || not opened) ≡ true
      → (is_wanted d e && opened) ≡ false
  idle_so live is = ap (λ b. (b && not (has d.cancelled e)) && opened) live ∙ go (has d.cancelled e) opened is
    where
      go : (a b : Bool) → (a || not b) ≡ true → (not a && b) ≡ false
      go true b x = refl
      go false true x = absurd (cc)
      go false false x = refl

  pub cancels_so : (live : is_assigned d.live e ≡ true) → (has d.cancelled e || not opened) ≡ false
      → (is_wanted d e && opened) ≡ true
  cancels_so live is = ap (λ b. (b && not (has d.cancelled e)) && opened) live ∙ go (has d.cancelled e) opened is
    where
      go : (a b : Bool) → (a || not b) ≡ false → (not a && b) ≡ true
      go true b x = absurd (cc)
      go false true x = refl
      go false false x = absurd (cc)

  -- what was told
  pub told_idle : cancelling (t.rows e) ≡ answer.Idle → (is_assigned d.live e ≡ true) × ((has d.cancelled e || not opened) ≡ true)
  told_idle is = (live, by (has d.cancelled e || not opened) (sym (told live) ∙ is))
    where
      live : is_assigned d.live e ≡ true
      live = has_row (λ none. (let clash : answer.Idle ≡ answer.Unknown = sym is ∙ none in absurd (cc)))

      by : (b : Bool) → cond b answer.Idle answer.Cancelled ≡ answer.Idle → b ≡ true
      by true x = refl
      by false x = absurd (cc)

  pub told_cancelled : cancelling (t.rows e) ≡ answer.Cancelled → (is_assigned d.live e ≡ true) × ((has d.cancelled e || not opened) ≡ false)
  told_cancelled is = (live, by (has d.cancelled e || not opened) (sym (told live) ∙ is))
    where
      live : is_assigned d.live e ≡ true
      live = has_row (λ none. (let clash : answer.Cancelled ≡ answer.Unknown = sym is ∙ none in absurd (cc)))

      by : (b : Bool) → cond b answer.Idle answer.Cancelled ≡ answer.Cancelled → b ≡ false
      by true x = absurd (cc)
      by false x = refl
