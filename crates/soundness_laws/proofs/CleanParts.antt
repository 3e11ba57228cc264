-- Commands of which all parts are shown, and none with an error, report none.
use Rattle.std.proofs.Common.{◌≡◌, ◌≤◌, Bool, true, false, cond, List, [], ◌∷◌, ◌++◌, length, map, Some, None, sym, subst, ◌∙◌, arith}
use Rattle.std.proofs.lemmas.Bool.{and_parts}
use Rattle.std.proofs.lemmas.Grind.{flat_map-append}
use Rattle.std.proofs.lemmas.List.Folds.{list_all-append}
use Rattle.std.specs.Prelude.{is_some}
use Rattle.std.specs.List.{flat_map}
use Rattle.std.specs.Option.{option_map_or}
use Rattle.pide_base.specs.declared.part.Part.{Part}
use Rattle.pide_base.specs.declared.part.PartKind.TheVariants as kind
use Rattle.report_markup.specs.declared.report.Report.{Report}
use Rattle.report_markup.specs.Ranges.{moved}
use Rattle.doc_nodes.specs.declared.node.Entry.{Entry}
use Rattle.exec_rules.specs.declared.row.Row.{Row}
use Rattle.core_rules.specs.declared.event.Event.{Event}
use Rattle.core_rules.specs.Settings.{Setting, made_of, forked, printed, state_behind}
use Rattle.core_rules.specs.Shown.{PartShown, shown_with, scratch_parts, scratches_parts}
use Rattle.core_rules.specs.Standing.{is_finished}
use Rattle.session_rules.specs.Shown.{placed_reports}
use Rattle.session_rules.specs.Promises.{are_all_shown}
use Rattle.isar_rules.specs.declared.state.State.{State}
use Rattle.isar_rules.specs.Isar.{isar}
use Rattle.soundness_laws.specs.Clean.{AreClean, told_reports}
use Rattle.soundness_laws.proofs.KnownFine.{AreFine, behind, both, front, unmoved, without_errors}

module _ (h : List Event) where
  -- a part that is shown is shown with its reports
  part_fine : (e : Entry) (rs : List Report) (p : Part) → is_some (shown_with h e (Some rs) p).reports ≡ true
      → AreFine (placed_reports (shown_with h e (Some rs) p)) → AreFine rs
  part_fine e rs p seen f = go (is_finished h p) seen f
    where
      go : (b : Bool) → is_some (cond b (Some rs) None) ≡ true
          → AreFine (option_map_or (map (moved e.range.start)) (cond b (Some rs) None) []) → AreFine rs
      go true seen f = unmoved e.range.start rs f
      go false seen f = absurd (cc)

  fork_fine : (e : Entry) (rs : List Report) (p : Part) (more : List PartShown) (b : Bool)
      → are_all_shown (cond b (shown_with h e (Some rs) p ∷ []) [] ++ more) ≡ true
      → AreFine (flat_map placed_reports (cond b (shown_with h e (Some rs) p ∷ []) [] ++ more))
      → AreFine (cond b rs [])
  fork_fine e rs p more false seen f = tt
  fork_fine e rs p more true seen f =
      part_fine e rs p (and_parts (is_some (shown_with h e (Some rs) p).reports) (are_all_shown more) seen).0
      (front (placed_reports (shown_with h e (Some rs) p)) (flat_map placed_reports more) f)

  abbrev prints : Entry → Row → Setting State → List PartShown
  prints e row s = option_map_or (λ q. shown_with h e
      (Some (printed isar (record s { state = state_behind isar s })))
      (record { exec = q; kind = kind.Print }) ∷ []) row.print []

  command_fine : (e : Entry) (row : Row) (s : Setting State) → are_all_shown (scratch_parts isar h e row s) ≡ true
      → AreFine (flat_map placed_reports (scratch_parts isar h e row s)) → AreFine (told_reports s)
  command_fine e row s seen f =
      let eval : Part = record { exec = row.evaluation; kind = kind.Eval } in
      let fork : Part = record { exec = row.evaluation; kind = kind.Fork } in
      let first : PartShown = shown_with h e (Some (made_of isar s).reports) eval in
      let rest : List PartShown = cond (made_of isar s).forks (shown_with h e (Some (forked isar s)) fork ∷ []) [] ++ prints e row s in
      let parts = and_parts (is_some first.reports) (are_all_shown rest) seen in
      both (made_of isar s).reports (cond (made_of isar s).forks (forked isar s) [])
      (part_fine e (made_of isar s).reports eval parts.0
      (front (placed_reports first) (flat_map placed_reports rest) f))
      (fork_fine e (forked isar s) fork (prints e row s) (made_of isar s).forks parts.1 (behind (placed_reports first) (flat_map placed_reports rest) f))

  pub commands_clean : (es : List Entry) (rows : List Row) (ss : List (Setting State)) → length es ≤ length rows → length ss ≤ length es
      → are_all_shown (scratches_parts isar h es rows ss) ≡ true → AreFine (flat_map placed_reports (scratches_parts isar h es rows ss)) → AreClean ss
  commands_clean es rows [] le lt seen f = tt
  commands_clean [] rows (s ∷ ss) le lt seen f = absurd (omega (arith, lt))
  commands_clean (e ∷ es) [] (s ∷ ss) le lt seen f = absurd (omega (arith, le))
  commands_clean (e ∷ es) (row ∷ rows) (s ∷ ss) le lt seen f =
      let here : List PartShown = scratch_parts isar h e row s in
      let later : List PartShown = scratches_parts isar h es rows ss in
      let parts = and_parts (are_all_shown here) (are_all_shown later)
      (sym (list_all-append (λ (part : PartShown). is_some part.reports) here later) ∙ seen) in
      let reports : AreFine (flat_map placed_reports here ++ flat_map placed_reports later) = subst AreFine (flat_map-append placed_reports here later) f in (
        without_errors (told_reports s) (command_fine e row s parts.0 (front (flat_map placed_reports here) (flat_map placed_reports later) reports)),
        commands_clean es rows ss (omega (arith, le)) (omega (arith, lt)) parts.1 (behind (flat_map placed_reports here) (flat_map placed_reports later) reports),
      )
