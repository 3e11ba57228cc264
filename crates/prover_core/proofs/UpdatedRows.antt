-- How far executions are after an update, and what they go by.
use Rattle.std.proofs.Common.{◌≡◌, ◌⊎◌, inl, inr, ℕ, ◌<◌, ◌≤◌, Bool, true, false, cond, not, ◌&&◌, ◌||◌, List, length, Option, Some, None, refl, ap, sym, ◌∙◌, arith}
use Rattle.std.proofs.lemmas.Bool.{cases_lt, and_parts, false_from_ne_true}
use Rattle.std.proofs.lemmas.Option.{same_Some}
use Rattle.text_words.specs.Members.{has}
use Rattle.doc_nodes.specs.Imports.{NodeList}
use Rattle.core_tables.specs.declared.execution.Execution.{Execution}
use Rattle.core_tables.specs.Finish.{after_cancelling}
use Rattle.exec_rules.specs.declared.home.Home.{Home}
use Rattle.exec_rules.specs.declared.home.Input.{Input}
use Rattle.exec_rules.specs.declared.home.Input.TheVariants as input
use Rattle.exec_rules.specs.Kept.{BlobList}
use Rattle.language.specs.Lang.{Lang}
use Rattle.core_rules.specs.declared.event.Event.{Event}
use Rattle.core_rules.specs.Numbered.{numbered}
use Rattle.core_rules.specs.Assigned.{assigns, is_assigned}
use Rattle.core_rules.specs.Settings.{Setting, made_of, setting}
use Rattle.core_rules.specs.Standing.{is_open}
use Rattle.core_jobs.specs.declared.done.Done.{Done}
use Rattle.prover_core.specs.Progress.{completed_in, progress_by, result, execution_by, row_by, row_of}
use Rattle.prover_core.specs.Plans.{begun_execution}
use Rattle.prover_core.specs.Kept.{Tables, IsKnown}
use Rattle.core_rules.proofs.KnownNumbers.{numbered_within}
use Rattle.prover_core.proofs.OpenRows.{row_known, row_with_mark}
use Rattle.prover_core.proofs.CancelTold.{after_told}
use Rattle.prover_core.proofs.UpdatedDoc.{three, same_home, same_setting, old_live, new_live, cancelled_now, not_cancelled, nothing_done}
use Rattle.prover_core.proofs.UpdateFacts.{Updating, d, more, now, new}

module _ {S : Type 0} {l : Lang S} {h : List Event} {t : Tables S} {id : ℕ} {nodes : NodeList} {blobs : BlobList} (u : Updating l h t id nodes blobs) where
  pub known_now : (e : ℕ) → is_assigned (now u).live e ≡ true → IsKnown l (now u).homes e
  known_now e live = go (cases_lt (length (d u).homes) e)
    where
      go : (length (d u).homes < e) ⊎ (e ≤ length (d u).homes) → IsKnown l (now u).homes e
      go (inl past) =
          let x = u.laws.homes e (sym (new_live u e past) ∙ live) in
          record { home = x.home; homed = x.homed; works_on = x.works_on; setting_is = x.setting_is }
      go (inr le) =
          let x = u.kept.known e (sym (old_live u e le) ∙ live) in record {
            home = x.home;
            homed = same_home u e le ∙ x.homed;
            works_on = x.works_on;
            setting_is = same_setting u e le ∙ x.setting_is;
          }

  -- an older execution's row, with another mark perhaps
  row_moved : (e : ℕ) → e ≤ length (d u).homes → row_of l (more u) (now u) e
      ≡ cond (is_assigned (d u).live e) (row_by l (has (now u).cancelled e) e (completed_in h e) (numbered (d u).homes e) (setting l (d u).homes e)) None
  row_moved e le =
      ap (λ b. cond b (row_by l (has (now u).cancelled e) e (completed_in h e) (numbered (now u).homes e) (setting l (now u).homes e)) None)
      (old_live u e le)
      ∙ ap (λ o. cond (is_assigned (d u).live e) (row_by l (has (now u).cancelled e) e (completed_in h e) o (setting l (now u).homes e)) None)
      (same_home u e le)
      ∙ ap (λ o. cond (is_assigned (d u).live e) (row_by l (has (now u).cancelled e) e (completed_in h e) (numbered (d u).homes e) o) None)
      (same_setting u e le)

  mark_same : (e : ℕ) → (assigns (d u).tip e && not (assigns (new u) e)) ≡ false → has (now u).cancelled e ≡ has (d u).cancelled e
  mark_same e stays = cancelled_now u e ∙ go (is_open l h (d u).homes e) (assigns (d u).tip e) (assigns (new u) e) stays
    where
      go : (a b c : Bool) → (b && not c) ≡ false → (((a && not c) && b) || has (d u).cancelled e) ≡ has (d u).cancelled e
      go true true true x = refl
      go true true false x = absurd (cc)
      go true false true x = refl
      go true false false x = refl
      go false b c x = refl

  pub stays_row : (e : ℕ) → e ≤ length (d u).homes → (assigns (d u).tip e && not (assigns (new u) e)) ≡ false → t.rows e ≡ row_of l (more u) (now u) e
  stays_row e le stays = u.kept.rows e
      ∙ ap (λ b. cond (is_assigned (d u).live e) (row_by l b e (completed_in h e) (numbered (d u).homes e) (setting l (d u).homes e)) None)
      (sym (mark_same e stays))
      ∙ sym (row_moved e le)

  pub dropped_row : (e : ℕ) → e ≤ length (d u).homes → (assigns (d u).tip e && not (assigns (new u) e)) ≡ true
      → after_cancelling (t.rows e) ≡ row_of l (more u) (now u) e
  dropped_row e le drops =
      after_told l h t u.kept e live ∙ ap (λ x. Some x) (marks (has (d u).cancelled e) (is_open l h (d u).homes e))
      ∙ sym (row_with_mark l h (d u) e (((is_open l h (d u).homes e && true) && true) || has (d u).cancelled e) x live)
      ∙ ap (λ b. cond (is_assigned (d u).live e) (row_by l b e (completed_in h e) (numbered (d u).homes e) (setting l (d u).homes e)) None)
      (sym (cancelled_now u e
      ∙ ap (λ b. ((is_open l h (d u).homes e && b) && assigns (d u).tip e) || has (d u).cancelled e) parts.1
      ∙ ap (λ b. ((is_open l h (d u).homes e && true) && b) || has (d u).cancelled e) parts.0))
      ∙ sym (row_moved e le)
    where
      parts : (assigns (d u).tip e ≡ true) × (not (assigns (new u) e) ≡ true)
      parts = and_parts (assigns (d u).tip e) (not (assigns (new u) e)) drops

      live : is_assigned (d u).live e ≡ true
      live = u.tip_live e parts.0

      x : IsKnown l (d u).homes e
      x = u.kept.known e live

      marks : (c o : Bool) → cond (c || not o) (execution_by l c e (completed_in h e) x.home x.works_on)
          (record (execution_by l c e (completed_in h e) x.home x.works_on) { cancelled = true })
          ≡ execution_by l (((o && true) && true) || c) e (completed_in h e) x.home x.works_on
      marks true true = refl
      marks true false = refl
      marks false true = refl
      marks false false = refl

  begins_with : (e : ℕ) (x : Home) (s : Setting S) → execution_by l false e (three false false false) x s ≡ begun_execution x.input
  begins_with e x s = go x.input
    where
      go : (i : Input) → record { cancelled = false; progress = progress_by (result l e s) (made_of l s).forks i (three false false false) }
          ≡ begun_execution i
      go (input.First head) = refl
      go (input.Next f) = refl
      go (input.Print f) = refl

  pub new_row : (e : ℕ) (x : Home) → length (d u).homes < e → e ≤ length (now u).homes → numbered (now u).homes e ≡ Some x
      → Some (begun_execution x.input) ≡ row_of l (more u) (now u) e
  new_row e x past le at =
      let given = u.laws.given e past le in
      let live = new_live u e past ∙ given in
      let known = known_now e live in
      sym (row_known l (more u) (now u) e known live
      ∙ ap (λ b. Some (execution_by l b e (completed_in (more u) e) known.home known.works_on))
      (not_cancelled u e given)
      ∙ ap (λ c. Some (execution_by l false e c known.home known.works_on)) (nothing_done u e past)
      ∙ ap (λ z. Some z) (begins_with e known.home known.works_on)
      ∙ ap (λ (y : Home). Some (begun_execution y.input))
      (same_Some known.home x (sym known.homed ∙ at)))

  pub beyond : (e : ℕ) → length (now u).homes < e → is_assigned (now u).live e ≡ false
  beyond e past = false_from_ne_true (is_assigned (now u).live e) (λ is.
      let x = known_now e is in
      let le = numbered_within (now u).homes e x.home x.homed in omega (arith, past, le))

  -- rows of an update: those that are dropped are cancelled, and new ones begin
  pub record AreRows (rows : ℕ → Option (Execution (Done S))) : Type 0 where
    pub old : (e : ℕ) → e ≤ length (d u).homes
        → rows e ≡ cond (assigns (d u).tip e && not (assigns (new u) e)) (after_cancelling (t.rows e)) (t.rows e)
    pub fresh : (e : ℕ) (x : Home) → length (d u).homes < e → numbered (now u).homes e ≡ Some x → rows e ≡ Some (begun_execution x.input)
    pub others : (e : ℕ) → length (now u).homes < e → rows e ≡ None
