-- What an editor sees of a node is what the version shows of it.
use Rattle.std.proofs.Common.{◌≡◌, ℕ, zero, suc, ◌+◌, ◌<◌, Bool, true, false, List, [], ◌∷◌, ◌++◌, length, map, filter, Some, refl, ap, sym, subst, ◌∙◌, arith}
use Rattle.std.proofs.Math.Bool.{and-false}
use Rattle.std.specs.Prelude.{slice_get, flat_map, not, ◌&&◌}
use Rattle.std.specs.Option.{option_map_or}
use Rattle.std.specs.List.{list_any, range_with_len}
use Rattle.text_words.specs.Members.{has}
use Rattle.text_edits.specs.declared.edit.Edit.{Edit}
use Rattle.report_markup.specs.declared.report.Report.{Report}
use Rattle.report_markup.specs.Sorting.{ordered_reports}
use Rattle.snapshots.specs.Converted.{at_range, left_by, left_range}
use Rattle.doc_nodes.specs.declared.node.Entry.{Entry}
use Rattle.doc_nodes.specs.declared.node.Node.{Node}
use Rattle.exec_rules.specs.declared.home.Home.{Home}
use Rattle.exec_rules.specs.declared.row.Row.{Row}
use Rattle.exec_rules.specs.declared.version.Version.{Version}
use Rattle.exec_rules.specs.Assigning.{rows_in}
use Rattle.exec_rules.specs.Listed.{executions}
use Rattle.mirror_rules.specs.Forking.{may_fork}
use Rattle.language.specs.Lang.{Lang}
use Rattle.core_rules.specs.declared.event.Event.{Event}
use Rattle.core_rules.specs.Settings.{Setting, setting}
use Rattle.core_rules.specs.Parts.{forks, kinds_by}
use Rattle.core_rules.specs.Doc.{doc, greatest}
use Rattle.core_rules.specs.FromScratch.{AllFromScratch, IsFromScratch}
use Rattle.core_rules.specs.Legal.{IsLegal}
use Rattle.core_rules.specs.Shown.{PartShown, command_parts as core_parts, commands_parts, parts_shown, pending, scratch_shown}
use Rattle.core_rules.specs.Standing.{is_finished, is_open}
use Rattle.core_rules.specs.Updates.{source_in}
use Rattle.core_rules.proofs.KnownNumbers.{numbered_past}
use Rattle.session_rules.specs.Replies.{is_outdated}
use Rattle.session_rules.specs.Shown.{placed_reports, finished_reports}
use Rattle.mirror_rules.specs.Images.{Image}
use Rattle.mirror_rules.specs.Looking.{View, unfinished_executions, view_of}
use Rattle.mirror_rules.specs.Parts.{aliases_for, command_parts, node_parts, parts_from}
use Rattle.mirror_rules.specs.Rows.{executions_of, rows_of}
use Rattle.mirror_rules.specs.Telling.{IsTold}
use Rattle.editor_laws.proofs.Agreeing.{Alike, both_alike, flat_same, none_alike}
use Rattle.editor_laws.proofs.CoreParts.{commands_open}
use Rattle.editor_laws.proofs.Facts.{Facts}
use Rattle.editor_laws.proofs.Known.{ImageOf, Same, entries_named}
use Rattle.editor_laws.proofs.ReportLaws.{Laws}
use Rattle.editor_laws.proofs.Pendings.{filter_same, past_all, same_range}
use Rattle.editor_laws.proofs.RowAlike.{row_alike, rows_are}
use Rattle.editor_laws.proofs.RowWorks.{row_works}
use Rattle.editor_laws.proofs.Rows.{row_list}
use Rattle.editor_laws.proofs.Spots.{executions_at}

-- the same reports are put in the same order
one_order : Laws → (xs ys : List Report) → Same xs ys → ordered_reports xs ≡ ordered_reports ys
one_order laws xs ys same = (laws.order ys).1 (ordered_reports xs)
    (record { same = λ measure. (laws.order xs).0.same measure ∙ same measure; sorted = (laws.order xs).0.sorted })

one_view : (a b c d : _) (x : Bool) → a ≡ b → c ≡ d → ◌≡◌ {A = View} (record { reports = a; pending = c; outdated = x }) (record { reports = b; pending = d; outdated = x })
one_view a b c d x p q = ap (λ r. record { reports = r; pending = c; outdated = x }) p ∙ ap (λ r. record { reports = b; pending = r; outdated = x }) q

module _ {S : Type 0} (l : Lang S) (laws : Laws) (is_told : IsTold l) (facts : Facts l) (h : List Event) (legal : IsLegal l h) (v : Version) (im : Image)
    (is : ImageOf l h (doc l h).homes v im) (scratch : AllFromScratch l (doc l h) v) (p : ℕ) (pair : List ℕ × Node) (stands : slice_get v.nodes p ≡ Some pair) where
  none_shown : (es : List Entry) → commands_parts l h (doc l h).homes es [] ≡ []
  none_shown [] = refl
  none_shown (e ∷ es) = refl

  -- the commands from a place on
  all_alike : (k : ℕ) (es : List Entry) (rows : List Row) → ((j : ℕ) (e : Entry) → slice_get es j ≡ Some e → slice_get pair.1.entries (k + j) ≡ Some e)
      → ((j : ℕ) → slice_get (rows_in v pair.0) (k + j) ≡ slice_get rows j)
      → Alike (parts_from im p pair k es) (commands_parts l h (doc l h).homes es rows)
  all_alike k [] rows entries same = none_alike
  all_alike k (e ∷ es) rows entries same = go rows same (λ rs more. all_alike (suc k) es rs behind more)
    where
      here : slice_get pair.1.entries k ≡ Some e
      here = let n : k + 0 ≡ k = omega arith in subst (λ i. slice_get pair.1.entries i ≡ Some e) n (entries zero e refl)

      at : (rs : List Row) → ((j : ℕ) → slice_get (rows_in v pair.0) (k + j) ≡ slice_get rs j) → slice_get (rows_in v pair.0) k ≡ slice_get rs zero
      at rs same = let n : k + 0 ≡ k = omega arith in ap (slice_get (rows_in v pair.0)) (sym n) ∙ same zero

      behind : (j : ℕ) (x : Entry) → slice_get es j ≡ Some x → slice_get pair.1.entries (suc k + j) ≡ Some x
      behind j x there = let n : k + suc j ≡ suc k + j = omega arith in subst (λ i. slice_get pair.1.entries i ≡ Some x) n (entries (suc j) x there)

      later : (rs more : List Row) → ((j : ℕ) → slice_get rs (suc j) ≡ slice_get more j) → ((j : ℕ) → slice_get (rows_in v pair.0) (k + j) ≡ slice_get rs j)
          → (j : ℕ) → slice_get (rows_in v pair.0) (suc k + j) ≡ slice_get more j
      later rs more rest same j = let n : suc k + j ≡ k + suc j = omega arith in ap (slice_get (rows_in v pair.0)) n ∙ same (suc j) ∙ rest j

      own : (rs : List Row) → ((j : ℕ) → slice_get (rows_in v pair.0) (k + j) ≡ slice_get rs j)
          → executions_of (rows_of im pair.0) e.command ≡ row_list (slice_get rs zero)
      own rs same = executions_at l h (doc l h).homes v im is pair.0 p k pair e stands refl here ∙ ap row_list (at rs same)

      go : (rs : List Row) → ((j : ℕ) → slice_get (rows_in v pair.0) (k + j) ≡ slice_get rs j)
          → ((more : List Row) → ((j : ℕ) → slice_get (rows_in v pair.0) (suc k + j) ≡ slice_get more j)
          → Alike (parts_from im p pair (suc k) es) (commands_parts l h (doc l h).homes es more))
          → Alike (parts_from im p pair k (e ∷ es)) (commands_parts l h (doc l h).homes (e ∷ es) rs)
      go [] same rest =
          subst (λ xs. Alike (command_parts im (may_fork (aliases_for im.nodes p k) (source_in pair.1 e)) e xs ++ parts_from im p pair (suc k) es) []) (sym (own [] same))
          (subst (Alike (parts_from im p pair (suc k) es)) (none_shown es)
          (rest [] (later [] [] (λ j. refl) same)))
      go (row ∷ rs) same rest =
          both_alike (command_parts im (may_fork (aliases_for im.nodes p k) (source_in pair.1 e)) e (executions_of (rows_of im pair.0) e.command))
          (parts_from im p pair (suc k) es) (core_parts l h (doc l h).homes e row) (commands_parts l h (doc l h).homes es rs)
          (subst (λ xs. Alike (command_parts im (may_fork (aliases_for im.nodes p k) (source_in pair.1 e)) e xs) (core_parts l h (doc l h).homes e row)) (sym (own (row ∷ rs) same))
          (row_alike l is_told facts h legal v im is scratch p pair stands k e here row (at (row ∷ rs) same)))
          (rest rs (later (row ∷ rs) rs (λ j. refl) same))

  rows_there : (i : ℕ) (row : Row) → slice_get (rows_in v pair.0) i ≡ Some row → (e : Entry) × (slice_get pair.1.entries i ≡ Some e)
  rows_there i row at =
      let x : IsFromScratch l (doc l h) v p pair i row = scratch p i pair row stands
      (ap (λ rs. slice_get rs i) (sym (rows_are l is_told facts h legal v im is scratch p pair stands)) ∙ at) in
      (x.command, x.stands)

  rows_work : (i : ℕ) (row : Row) (y : ℕ) → slice_get (rows_in v pair.0) i ≡ Some row → has (executions row) y ≡ true
      → (s : Setting S) × (setting l (doc l h).homes y ≡ Some s)
  rows_work i row y at = row_works l (doc l h) v p pair i row (scratch p i pair row stands
      (ap (λ rs. slice_get rs i) (sym (rows_are l is_told facts h legal v im is scratch p pair stands)) ∙ at)) y

  abbrev parts : List PartShown
  parts = parts_from im p pair 0 pair.1.entries

  abbrev core : List PartShown
  core = commands_parts l h (doc l h).homes pair.1.entries (rows_in v pair.0)

  alike : Alike parts core
  alike = all_alike 0 pair.1.entries (rows_in v pair.0)
      (λ j e at. let n : j ≡ 0 + j = omega arith in subst (λ i. slice_get pair.1.entries i ≡ Some e) n at)
      (λ j. let n : 0 + j ≡ j = omega arith in ap (slice_get (rows_in v pair.0)) n)

  abbrev test : ℕ → Bool
  test y = has (flat_map executions (rows_in v pair.0)) y && is_open l h (doc l h).homes y

  tests : (y : ℕ) → has (unfinished_executions parts) y ≡ test y
  tests y = alike.waits y ∙ commands_open l h (doc l h).homes pair.1.entries (rows_in v pair.0) y rows_there rows_work

  unmade : (y : ℕ) → length (doc l h).homes < y → test y ≡ false
  unmade y late =
      ap (λ o. has (flat_map executions (rows_in v pair.0)) y && list_any (λ q. not (is_finished h q))
      (option_map_or (λ (z : Home). map (λ k. record { exec = y; kind = k }) (kinds_by z.input (forks l (doc l h).homes y))) o [])) (numbered_past (doc l h).homes y late)
      ∙ and-false (has (flat_map executions (rows_in v pair.0)) y)

  pending_same : filter (has (unfinished_executions parts)) (range_with_len 1 (greatest 0 (unfinished_executions parts))) ≡ pending l h (doc l h) v pair.0
  pending_same =
      filter_same (has (unfinished_executions parts)) test (range_with_len 1 (greatest 0 (unfinished_executions parts))) tests
      ∙ same_range test (greatest 0 (unfinished_executions parts)) (length (doc l h).homes) (λ y past. sym (tests y) ∙ past_all (unfinished_executions parts) y past) unmade

  -- what is seen of the node is what is shown and pending of it
  pub node_seen : (edits : List Edit) → parts_shown l h (doc l h) v pair.0 ≡ scratch_shown l h v pair.0
      → view_of (node_parts im p) edits
      ≡ record { reports = finished_reports l h v pair.0 edits; pending = pending l h (doc l h) v pair.0; outdated = is_outdated edits }
  node_seen edits scratched =
      ap (λ o. view_of (option_map_or (λ (x : List ℕ × Node). parts_from im p x 0 x.1.entries) o []) edits)
      (ap (λ ns. slice_get ns p) is.nodes ∙ stands)
      ∙ one_view (ordered_reports (left_by edits (flat_map placed_reports parts))) (finished_reports l h v pair.0 edits) _ (pending l h (doc l h) v pair.0) (is_outdated edits)
      (one_order laws (left_by edits (flat_map placed_reports parts))
      (left_by edits (flat_map placed_reports core))
      (flat_same (λ r. at_range r (left_range edits r.range)) (flat_map placed_reports parts) (flat_map placed_reports core) alike.reports)
      ∙ ap (λ es. ordered_reports (left_by edits (flat_map placed_reports (commands_parts l h (doc l h).homes es (rows_in v pair.0)))))
      (sym (entries_named v p pair is.sorted stands))
      ∙ ap (λ ps. ordered_reports (left_by edits (flat_map placed_reports ps))) scratched)
      pending_same
