-- What parts report that lies in a text can be moved through edits that the text takes.
use Rattle.std.proofs.Common.{◌≡◌, ℕ, ◌+◌, List, [], ◌∷◌, length, Option, Some, ap, sym, subst, ◌∙◌, arith}
use Rattle.std.specs.Option.{option_map_or}
use Rattle.std.specs.List.{AllByRecursion}
use Rattle.text_words.proofs.KnownLists.{each-so}
use Rattle.text_edits.specs.declared.edit.Edit.{Edit}
use Rattle.report_markup.specs.declared.report.Report.{Report}
use Rattle.snapshots.specs.Gathered.{Movable}
use Rattle.doc_nodes.specs.declared.node.Entry.{Entry}
use Rattle.doc_nodes.specs.declared.node.Node.{Node}
use Rattle.doc_nodes.specs.Imports.{place_of}
use Rattle.exec_rules.specs.declared.version.Version.{Version}
use Rattle.exec_rules.specs.Assigning.{entries_at, entries_in, rows_in}
use Rattle.language.specs.Lang.{Lang}
use Rattle.language.specs.Laws.{AreTidy}
use Rattle.core_rules.specs.declared.event.Event.{Event}
use Rattle.core_rules.specs.Settings.{Setting}
use Rattle.core_rules.specs.Shown.{PartShown, scratches_parts, scratch_shown}
use Rattle.core_rules.specs.Scratch.{scratch_at}
use Rattle.core_rules.specs.Updates.{node_in}
use Rattle.session_replies.specs.Edited.{PlacesFit}
use Rattle.session_replies.specs.Marked.{reported, AreMovable}
use Rattle.session_replies.proofs.LiveTexts.{IsLaid, node_at}
use Rattle.session_replies.proofs.ScratchRuns.{RunSo, Unrun, RunFrom, run_so}
use Rattle.session_replies.proofs.LyingReports.{LiesAt, PartLies, all_lie}

none_lie : {S : Type 0} (l : Lang S) (h : List Event) (len : ℕ) (es : List Entry) (rows : List _)
    → AllByRecursion (PartLies len) (scratches_parts l h es rows [])
none_lie l h len [] rows = tt
none_lie l h len (e ∷ es) [] = tt
none_lie l h len (e ∷ es) (row ∷ rows) = tt

module _ {S : Type 0} (l : Lang S) (tidy : AreTidy l) (h : List Event) (version : Version) (name : List ℕ) (node : Node)
    (at : node_in version name ≡ Some node) (laid : IsLaid node) where
  lie_by : (settings : List (Setting S)) → RunSo l version.nodes version.blobs node settings
      → AllByRecursion (PartLies (length node.text)) (scratches_parts l h node.entries (rows_in version name) settings)
  lie_by settings (Unrun none) = subst
      (λ ss. AllByRecursion (PartLies (length node.text)) (scratches_parts l h node.entries (rows_in version name) ss)) (sym none)
      (none_lie l h (length node.text) node.entries (rows_in version name))
  lie_by settings (RunFrom state is) = subst
      (λ ss. AllByRecursion (PartLies (length node.text)) (scratches_parts l h node.entries (rows_in version name) ss)) (sym is)
      (all_lie l tidy h node version.blobs (length node.text) 0 node.entries (rows_in version name) state laid.rising)

  -- what is shown of the node from nothing lies in its text
  shown_lies : AllByRecursion (PartLies (length node.text)) (scratch_shown l h version name)
  shown_lies =
      let there = node_at version name node at in
      let entries : entries_in version name ≡ node.entries =
      ap (λ o. option_map_or (entries_at version.nodes) o []) there.found
      ∙ ap (λ (o : Option (List ℕ × Node)). option_map_or (λ pair. pair.1.entries) o []) there.stands
      ∙ ap (λ (n : Node). n.entries) there.node_is in
      let settings : option_map_or (scratch_at l version.nodes version.blobs) (place_of version.nodes name) []
      ≡ scratch_at l version.nodes version.blobs there.place =
      ap (λ o. option_map_or (scratch_at l version.nodes version.blobs) o []) there.found in
      let run : RunSo l version.nodes version.blobs node (scratch_at l version.nodes version.blobs there.place) =
      subst (λ n. RunSo l version.nodes version.blobs n (scratch_at l version.nodes version.blobs there.place)) there.node_is
      (run_so l version.nodes version.blobs there.place there.pair there.stands) in
      subst (λ ss. AllByRecursion (PartLies (length node.text)) (scratches_parts l h (entries_in version name) (rows_in version name) ss))
      (sym settings)
      (subst (λ es. AllByRecursion (PartLies (length node.text)) (scratches_parts l h es (rows_in version name)
      (scratch_at l version.nodes version.blobs there.place))) (sym entries) (lie_by _ run))

  module _ (edits : List Edit) (fit : PlacesFit edits node.text) where
    moves : (place : ℕ) (r : Report) → LiesAt (length node.text) place r → Movable edits place r
    moves place r lies = (
      omega (arith, lies.0, laid.short),
      omega (arith, lies.1, laid.short),
      (fit (place + r.range.start) lies.0, fit (place + r.range.stop) lies.1),
    )

    part_moves : (p : PartShown) → PartLies (length node.text) p → AllByRecursion (Movable edits p.span.start) (reported p)
    part_moves p lies = each-so (LiesAt (length node.text) p.span.start) (Movable edits p.span.start) (moves p.span.start) (reported p) lies

    -- and can be moved
    pub shown_moves : AreMovable edits (scratch_shown l h version name)
    shown_moves = each-so (PartLies (length node.text)) (λ p. AllByRecursion (Movable edits p.span.start) (reported p)) part_moves
        (scratch_shown l h version name) shown_lies
