-- What the core answers of a node is what a snapshot shows.
use Rattle.std.proofs.Common.{◌≡◌, ℕ, cond, ◌&&◌, List, [], ◌∷◌, ◌++◌, length, map, filter, Option, Some, None, refl, ap, sym, subst, ◌∙◌}
use Rattle.std.specs.Prelude.{slice_get, flat_map, is_some}
use Rattle.std.specs.Option.{option_map_or}
use Rattle.std.specs.List.{AllByRecursion}
use Rattle.text_words.specs.Members.{has}
use Rattle.text_words.proofs.KnownLists.{each-passing}
use Rattle.text_edits.specs.declared.edit.Edit.{Edit}
use Rattle.report_markup.specs.declared.report.Report.{Report}
use Rattle.report_markup.specs.Ranges.{moved}
use Rattle.report_markup.specs.Sorting.{ordered_reports}
use Rattle.snapshots.specs.Converted.{left_by}
use Rattle.snapshots.specs.Gathered.{Movable}
use Rattle.reply_messages.specs.Forms.{IsRising}
use Rattle.doc_nodes.specs.declared.node.Node.{Node}
use Rattle.core_tables.specs.declared.versions.Live.{Live}
use Rattle.exec_rules.specs.declared.version.Version.{Version}
use Rattle.exec_rules.specs.Assigning.{rows_in}
use Rattle.exec_rules.specs.Listed.{executions}
use Rattle.language.specs.Lang.{Lang}
use Rattle.language.specs.Laws.{AreTidy}
use Rattle.core_rules.specs.declared.event.Event.{Event}
use Rattle.core_rules.specs.Doc.{doc}
use Rattle.core_rules.specs.Legal.{IsLegal}
use Rattle.core_rules.specs.Shown.{PartShown, parts_shown, scratch_shown}
use Rattle.core_rules.specs.Standing.{is_open}
use Rattle.core_rules.specs.Updates.{node_in}
use Rattle.core_jobs.specs.declared.results.NodeResults.{NodeResults}
use Rattle.core_jobs.specs.Parts.{told_part}
use Rattle.prover_core.specs.Results.{is_reported, AreResultsIn}
use Rattle.session_rules.specs.Shown.{placed_reports, finished_reports}
use Rattle.session_replies.specs.Edited.{PlacesFit}
use Rattle.session_replies.specs.Marked.{reported, shown_of, AreMovable}
use Rattle.session_replies.proofs.RisingNumbers.{range_filtered}
use Rattle.session_replies.proofs.LiveTexts.{found_at, live_laid}
use Rattle.session_replies.proofs.MovableParts.{shown_moves}

-- unfinished parts show nothing
finished_show : (parts : List PartShown)
    → flat_map placed_reports (filter is_reported parts) ≡ flat_map placed_reports parts
finished_show [] = refl
finished_show (p ∷ parts) = go p.reports refl (finished_show parts)
  where
    go : (o : Option (List Report)) → p.reports ≡ o → flat_map placed_reports (filter is_reported parts) ≡ flat_map placed_reports parts
        → flat_map placed_reports (cond (is_some p.reports) (p ∷ filter is_reported parts) (filter is_reported parts)) ≡ placed_reports p ++ flat_map placed_reports parts
    go None e rest =
        ap (λ (r : Option (List Report)). flat_map placed_reports (cond (is_some r) (p ∷ filter is_reported parts) (filter is_reported parts))) e
        ∙ rest ∙ sym (ap (λ (r : Option (List Report)). option_map_or (map (moved p.span.start)) r [] ++ flat_map placed_reports parts) e)
    go (Some rs) e rest =
        ap (λ (r : Option (List Report)). flat_map placed_reports (cond (is_some r) (p ∷ filter is_reported parts) (filter is_reported parts))) e
        ∙ ap (λ rs. placed_reports p ++ rs) rest

-- what the core's law says of live versions
abbrev pub ShownLaw : {S : Type 0} → Lang S → Type 0
ShownLaw l = (h : List Event) (k : ℕ) (one : Live Version) (name : List ℕ) → IsLegal l h
    → slice_get (doc l h).live k ≡ Some one
    → parts_shown l h (doc l h) one.version name ≡ scratch_shown l h one.version name

module _ {S : Type 0} (l : Lang S) (h : List Event) (id : ℕ) (name : List ℕ) (results : NodeResults)
    (found : AreResultsIn l h id name results) where
  -- the pending executions rise
  pub pending_rises : IsRising results.pending.items
  pending_rises = subst IsRising (sym found.pending_is) (range_filtered
      (λ e. has (flat_map executions (rows_in found.version name)) e && is_open l h (doc l h).homes e) 1 (length (doc l h).homes))

  module _ (law : ShownLaw l) (legal : IsLegal l h) where
    from_nothing : parts_shown l h (doc l h) found.version name ≡ scratch_shown l h found.version name
    from_nothing =
        let at = found_at (doc l h).live id found.version found.live in
        subst (λ (v : Version). parts_shown l h (doc l h) v name ≡ scratch_shown l h v name) at.version_is
        (law h at.place at.one name legal at.stands)

    told_is : map told_part results.parts.items ≡ filter is_reported
        (scratch_shown l h found.version name)
    told_is = found.parts ∙ ap (filter is_reported) from_nothing

    pub shown_is : (edits : List Edit) → shown_of edits (map told_part results.parts.items) ≡ finished_reports l h found.version name edits
    shown_is edits = ap (λ rs. ordered_reports (left_by edits rs))
        (ap (flat_map placed_reports) told_is ∙ finished_show
        (scratch_shown l h found.version name))

    pub told_moves : AreTidy l → (edits : List Edit) (node : Node) → node_in found.version name ≡ Some node → PlacesFit edits node.text
        → AreMovable edits (map told_part results.parts.items)
    told_moves tidy edits node at fit =
        let laid = live_laid l h id found.version name node legal found.live at in
        subst (AreMovable edits) (sym told_is)
        (each-passing (λ p. AllByRecursion (Movable edits p.span.start) (reported p)) is_reported (scratch_shown l h found.version name)
        (shown_moves l tidy h found.version name node at laid edits fit))
