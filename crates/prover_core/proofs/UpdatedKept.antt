-- What is kept once an update is made.
use Rattle.std.proofs.Common.{◌≡◌, ◌⊎◌, inl, inr, ℕ, ◌<◌, ◌≤◌, Bool, true, false, cond, not, ◌&&◌, List, [], ◌∷◌, ◌++◌, length, Option, Some, None, refl, ap, sym, subst, ◌∙◌, arith}
use Rattle.std.proofs.lemmas.Bool.{cases_lt}
use Rattle.std.specs.Option.{option_map_or}
use Rattle.pide_base.specs.Ids.{id_end}
use Rattle.doc_nodes.specs.Imports.{NodeList}
use Rattle.core_tables.specs.declared.versions.Live.{Live}
use Rattle.core_tables.specs.Live.{History, newest}
use Rattle.core_tables.specs.declared.execution.Execution.{Execution}
use Rattle.core_tables.specs.Finish.{after_cancelling}
use Rattle.core_tables.specs.declared.task.Standing.{Standing as Task}
use Rattle.exec_rules.specs.declared.home.Home.{Home}
use Rattle.exec_rules.specs.declared.version.Version.{Version}
use Rattle.exec_rules.specs.Kept.{BlobList}
use Rattle.exec_assign.specs.Fitting.{RowsFit}
use Rattle.language.specs.Lang.{Lang}
use Rattle.core_rules.specs.declared.event.Event.{Event}
use Rattle.core_rules.specs.Numbered.{numbered, next_number}
use Rattle.core_rules.specs.Assigned.{assigns, is_assigned}
use Rattle.text_words.specs.Members.{has}
use Rattle.core_rules.specs.Settings.{setting}
use Rattle.core_rules.specs.Doc.{assignment_of}
use Rattle.core_rules.specs.Legal.{IsLegal}
use Rattle.core_jobs.specs.declared.done.Done.{Done}
use Rattle.version_losses.specs.declared.losses.Loss.{Loss}
use Rattle.version_losses.specs.Losses.{AreLosses}
use Rattle.prover_core.specs.Progress.{completed_in, row_by, row_of}
use Rattle.prover_core.specs.Kept.{Tables, IsKept, home_of}
use Rattle.core_rules.proofs.KnownNumbers.{numbered_within, length_grown}
use Rattle.prover_core.proofs.LossesKept.{pushed_losses}
use Rattle.prover_core.proofs.UpdatedDoc.{same_home, old_live, new_live, not_cancelled}
use Rattle.prover_core.proofs.UpdatedRows.{AreRows, known_now, beyond, stays_row, dropped_row, new_row}
use Rattle.prover_core.proofs.UpdatedTasks.{AreTasksThen, tasks_now}
use Rattle.prover_core.proofs.TasksOver.{next_old}
use Rattle.prover_core.proofs.LastOf.{last_is}
use Rattle.prover_core.proofs.NextMade.{made_next}
use Rattle.prover_core.proofs.Noted.{none_noted}
use Rattle.prover_core.proofs.UpdateFacts.{Updating, tables_with, d, more, now, new}

module _ {S : Type 0} {l : Lang S} {h : List Event} {t : Tables S} {id : ℕ} {nodes : NodeList} {blobs : BlobList} (u : Updating l h t id nodes blobs) where
  rows_now : (rows : ℕ → Option (Execution (Done S))) → AreRows u rows
      → (e : ℕ) → rows e ≡ row_of l (more u) (now u) e
  rows_now rows so e = go (cases_lt (length (d u).homes) e)
    where
      old : (b : Bool) → (assigns (d u).tip e && not (assigns (new u) e)) ≡ b → e ≤ length (d u).homes
          → cond b (after_cancelling (t.rows e)) (t.rows e) ≡ row_of l (more u) (now u) e
      old true is le = dropped_row u e le is
      old false is le = stays_row u e le is

      above : length (d u).homes < e → (length (now u).homes < e) ⊎ (e ≤ length (now u).homes) → rows e ≡ row_of l (more u) (now u) e
      above past (inl lt) = so.others e lt
          ∙ sym (ap (λ b. cond b (row_by l (has (now u).cancelled e) e (completed_in (more u) e) (numbered (now u).homes e) (setting l (now u).homes e)) None) (beyond u e lt))
      above past (inr le) =
          let x = u.laws.homes e (u.laws.given e past le) in
          so.fresh e x.home past x.homed ∙ new_row u e x.home past le x.homed

      go : (length (d u).homes < e) ⊎ (e ≤ length (d u).homes) → rows e ≡ row_of l (more u) (now u) e
      go (inl past) = above past (cases_lt (length (now u).homes) e)
      go (inr le) = so.old e le ∙ old (assigns (d u).tip e && not (assigns (new u) e)) refl le

  -- homes of an update: new ones are put in
  pub record AreHomes (homes : ℕ → Option Home) : Type 0 where
    pub old : (e : ℕ) → e ≤ length (d u).homes → homes e ≡ t.homes e
    pub fresh : (e : ℕ) (x : Home) → length (d u).homes < e → numbered (now u).homes e ≡ Some x → homes e ≡ Some x
    pub others : (e : ℕ) → length (now u).homes < e → homes e ≡ None

  homes_now : (homes : ℕ → Option Home) → AreHomes homes → (e : ℕ) → homes e ≡ home_of (now u) e
  homes_now homes so e = go (cases_lt (length (d u).homes) e)
    where
      above : length (d u).homes < e → (length (now u).homes < e) ⊎ (e ≤ length (now u).homes) → homes e ≡ home_of (now u) e
      above past (inl lt) = so.others e lt ∙ sym (ap (λ b. cond b (numbered (now u).homes e) None) (beyond u e lt))
      above past (inr le) =
          let given = u.laws.given e past le in
          let x = u.laws.homes e given in
          so.fresh e x.home past x.homed
          ∙ sym (ap (λ b. cond b (numbered (now u).homes e) None) (new_live u e past ∙ given) ∙ x.homed)

      go : (length (d u).homes < e) ⊎ (e ≤ length (d u).homes) → homes e ≡ home_of (now u) e
      go (inl past) = above past (cases_lt (length (now u).homes) e)
      go (inr le) = so.old e le ∙ u.kept.homes e
          ∙ sym (ap (λ b. cond b (numbered (now u).homes e) None) (old_live u e le)
          ∙ ap (λ o. cond (is_assigned (d u).live e) o None) (same_home u e le))

  pub updated_kept : IsLegal l (more u) → (versions : History Version) → versions.start ≡ t.versions.start
      → versions.live ≡ t.versions.live ++ record { id = id; version = (new u) } ∷ [] → RowsFit (new u)
      → (next : ℕ) → next ≡ next_number (now u).homes → next ≤ id_end
      → (rows : ℕ → Option (Execution (Done S))) → AreRows u rows
      → (homes : ℕ → Option Home) → AreHomes homes
      → (tasks : ℕ → Option Task) → AreTasksThen u tasks
      → (dropped : List ℕ) → ((e : ℕ) → has dropped e ≡ (assigns (d u).tip e && not (assigns (new u) e))) → (losses : List Loss)
      → losses ≡ t.losses ++ record { id = id; next = next; lost = dropped } ∷ [] → (room count : ℕ) (cancelled : List ℕ) (spare : ℕ)
      → t.holding ≤ room → cancelled ≡ [] → count ≤ spare
      → IsKept l (more u) (tables_with t versions losses next rows homes tasks room count cancelled spare)
  updated_kept legal versions begins lives fits next next_is within rows are_rows homes are_homes tasks are_tasks dropped drops losses put room count cancelled spare roomy none can_cancel = record {
    legal = legal;
    start_is = begins ∙ u.kept.start_is;
    live = lives ∙ ap (λ xs. xs ++ record { id = id; version = (new u) } ∷ []) u.kept.live;
    tip = ap (λ xs. option_map_or (λ (x : Live Version). x.version) (newest xs) versions.start) lives
        ∙ ap (λ o. option_map_or (λ (x : Live Version). x.version) o versions.start)
        (last_is t.versions.live (record { id = id; version = (new u) }));
    rows_fit = fits;
    losses = subst (λ xs. AreLosses (new u) (next_number (now u).homes) 0 xs (now u).live)
        (sym (put ∙ ap (λ n. t.losses ++ record { id = id; next = n; lost = dropped } ∷ []) next_is))
        (pushed_losses (d u).tip (new u) (next_number (d u).homes) (next_number (now u).homes) dropped id
        (omega (arith, length_grown (d u).homes (assignment_of (d u) nodes blobs).homes))
        (λ e is lt. u.laws.kept e is (omega (arith, lt)))
        (λ e is. let x = u.laws.homes e is in omega (arith, numbered_within (now u).homes e x.home x.homed))
        drops 0 t.losses (d u).live u.kept.losses);
    next_is = next_is;
    within = within;
    rows = rows_now rows are_rows;
    homes = homes_now homes are_homes;
    known = known_now u;
    in_order = u.kept.in_order;
    holders = u.kept.holders;
    held_next = λ who p is.
        let was = u.kept.held_next who p is in
        next_old u p.exec (made_next l h p.exec p.kind was) ∙ was;
    tasks = tasks_now u tasks are_tasks;
    ended = u.kept.ended;
    cancelled = λ e. ap (λ es. has es e) none ∙ none_noted (assigns (new u) e) (has (now u).cancelled e) (not_cancelled u e);
    room = roomy;
    spare = can_cancel;
  }
