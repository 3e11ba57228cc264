-- A suggested proof is taken in the document that is checked from nothing after the edit.
use Rattle.std.proofs.Common.{◌≡◌, ◌↔◌, ℕ, ◌<◌, ◌==◌, Bool, true, false, List, [], ◌∷◌, ◌++◌, length, map, find, slice_get, Option, Some, None, refl, sym, ap, ap₂, ◌∙◌, subst, arith, append_assoc}
use Rattle.std.specs.Option.{option_map_or}
use Rattle.std.proofs.lemmas.Bool.{false≢true}
use Rattle.std.proofs.lemmas.Option.{same_Some, slice_get_within}
use Rattle.std.proofs.lemmas.List.{length-map}
use Rattle.text_words.specs.Members.{has}
use Rattle.text_words.proofs.KnownMembers.{cut_at, has_middle}
use Rattle.text_edits.specs.Edits.{Applies}
use Rattle.nj_suggest.specs.Edits.{edit}
use Rattle.outer_syntax.specs.Reading.{header_in}
use Rattle.doc_nodes.specs.declared.node.Entry.{Entry}
use Rattle.doc_nodes.specs.declared.node.Node.{Node}
use Rattle.doc_nodes.specs.Aliases.{aliases_at}
use Rattle.doc_nodes.specs.Imports.{NodeList, is_bad, order}
use Rattle.exec_rules.specs.Assigning.{entries_at}
use Rattle.exec_rules.specs.Kept.{BlobList}
use Rattle.language.specs.declared.made.Imports.{Imports}
use Rattle.core_rules.specs.Scratch.{Run, Runs, imports_run}
use Rattle.core_rules.specs.Settings.{Setting}
use Rattle.buffer_rules.specs.declared.sheet.Sheet.{Sheet}
use Rattle.buffer_rules.specs.Nodes.{cut, nodes_after, uncut, uncut_all}
use Rattle.buffer_rules.specs.Numbers.{Command}
use Rattle.buffer_rules.specs.Sheets.{SheetList}
use Rattle.soundness_laws.specs.Insertion.{IsUnbroken}
use Rattle.isar_rules.specs.declared.state.State.{State}
use Rattle.isar_rules.specs.Isar.{isar}
use Rattle.isar_rules.specs.Starts.{start_state}
use Rattle.soundness_laws.specs.Edited.{NodeComesTo, IsTakenAt}
use Rattle.soundness_laws.specs.Suggesting.{IsEditedAt, IsTaken, Suggests, beginning_at, node_of, run_of}
use Rattle.soundness_laws.proofs.CutNodes.{AreCut, Cuts, aliases_in, cut_after, cut_heads, cuts_at}
use Rattle.soundness_laws.proofs.EditedNodes.{at_new, front_stays, imports_stay, order_stays, this_place}
use Rattle.soundness_laws.proofs.SameAliases.{same_at}
use Rattle.soundness_laws.proofs.SheetRuns.{Counted, One, all_in, found_in, run_in, same_ids, scratch_is}

-- what is known of documents
pub record Laws : Type 0 where
  pub taken : (sheets others : SheetList) (p : ℕ) (name : List ℕ) (imports : Imports State) (sheet : Sheet) (before later : List Command) (next last : ℕ) (blobs : BlobList)
      (k : ℕ) (e : Entry) (s : Setting State) (text new : List ℕ) → IsEditedAt sheets others p sheet new
      → slice_get (node_of (beginning_at sheets p name imports) sheet before next).entries k ≡ Some e
      → slice_get (run_of (beginning_at sheets p name imports) sheet before next blobs).commands k ≡ Some s → Suggests s text
      → IsUnbroken sheet.text (map (λ pair. pair.0) (aliases_at (uncut_all sheets) p).pairs) e.range.stop → Applies (edit e.range.stop text) sheet.text new
      → IsTaken (run_of (beginning_at sheets p name imports) sheet before next blobs)
      (run_of (beginning_at others p name imports) (record sheet { text = new }) later last blobs) sheet.text new text k
  pub counted : Counted
  pub every : (nodes : NodeList) (p : ℕ) → (has (order nodes) p ≡ true) ↔ (p < length nodes)
  pub once : (nodes : NodeList) (front rest : List ℕ) (p : ℕ) → order nodes ≡ front ++ p ∷ rest → has front p ≡ false

-- a place of the order of imports, with what stands before and behind it
pub record Split (places : List ℕ) (p : ℕ) : Type 0 where
  pub front : List ℕ
  pub rest : List ℕ
  pub is : places ≡ front ++ p ∷ rest
  pub before : has front p ≡ false
  pub behind : has rest p ≡ false

split_at : (nodes : NodeList) (p : ℕ) → ((front rest : List ℕ) (q : ℕ) → order nodes ≡ front ++ q ∷ rest → has front q ≡ false) → has (order nodes) p ≡ true → Split (order nodes) p
split_at nodes p once there =
    let c = cut_at (order nodes) p there in
    record { front = c.0; rest = c.1; is = c.2; before = once c.0 c.1 p c.2; behind = later c.0 c.1 c.2 (has c.1 p) refl }
  where
    later : (front rest : List ℕ) → order nodes ≡ front ++ p ∷ rest → (b : Bool) → has rest p ≡ b → b ≡ false
    later front rest is false e = refl
    later front rest is true e =
        let d = cut_at rest p e in
        let again : order nodes ≡ (front ++ p ∷ d.0) ++ p ∷ d.1 = is ∙ ap (λ r. front ++ p ∷ r) d.2 ∙ sym (append_assoc front (p ∷ d.0) (p ∷ d.1)) in
        absurd (false≢true (sym (once (front ++ p ∷ d.0) d.1 p again) ∙ has_middle front p d.0))

module _ (laws : Laws) (sheets others : SheetList) (p : ℕ) (sheet : Sheet) (blobs : BlobList) (text new : List ℕ) (k : ℕ) (edited : IsEditedAt sheets others p sheet new) where
  abbrev x : List ℕ × Sheet
  x = (edited.name, sheet)

  at_old : slice_get sheets p ≡ Some x
  at_old = ap₂ slice_get edited.old_is (sym edited.stands) ∙ this_place edited.front edited.back x

  within : p < length (uncut_all sheets)
  within =
      let uncut_pair : List ℕ × Sheet → List ℕ × Node = λ pair. (pair.0, uncut pair.1) in
      omega (arith, slice_get_within sheets p x at_old, length-map sheets uncut_pair)

  split : Split (order (uncut_all sheets)) p
  split = split_at (uncut_all sheets) p (laws.once (uncut_all sheets)) ((laws.every (uncut_all sheets) p).1 within)

  abbrev runs : Runs State
  runs = all_in laws.counted blobs sheets split.front []

  abbrev given : Imports State
  given = imports_run isar (uncut_all sheets) runs (uncut sheet).imports (find (is_bad (uncut_all sheets)) (uncut sheet).imports)

  -- the run before the edit
  old_run : (tip : NodeList) (next : ℕ) (run : Run State) → NodeComesTo (nodes_after tip sheets next).nodes blobs p run → run ≡ run_in laws.counted blobs sheets runs p x
  old_run tip next run comes =
      let found = found_in laws.counted blobs sheets split.front split.rest p x split.behind at_old in
      ap (λ (o : One). o.1) (same_Some (p, run) (p, run_in laws.counted blobs sheets runs p x) (sym comes
      ∙ ap (find (λ (o : One). o.0 == p)) (scratch_is laws.counted blobs sheets (nodes_after tip sheets next).nodes (cut_after tip sheets next)
      ∙ ap (λ qs. all_in laws.counted blobs sheets qs []) split.is) ∙ found))

  -- after it
  module _ (header : header_in new ≡ header_in sheet.text) where
    abbrev y : List ℕ × Sheet
    y = (edited.name, record sheet { text = new })

    new_run : (old : NodeList) (last : ℕ) → NodeComesTo (nodes_after old others last).nodes blobs p (run_of (beginning_at others p edited.name given) y.1 [] 0 blobs)
    new_run old last =
        let found = found_in laws.counted blobs others split.front split.rest p y split.behind (at_new laws.counted blobs sheets others p sheet new edited header) in
        let fronts = front_stays laws.counted blobs sheets others p sheet new edited header split.front [] split.before in
        let order_is = order_stays laws.counted blobs sheets others p sheet new edited header in
        ap (find (λ (o : One). o.0 == p)) (scratch_is laws.counted blobs others (nodes_after old others last).nodes (cut_after old others last)
        ∙ ap (λ qs. all_in laws.counted blobs others qs []) (order_is ∙ split.is)) ∙ found
        ∙ ap (λ rs. Some (p, run_in laws.counted blobs others rs p y)) fronts
        ∙ ap (λ imports. Some (p, run_of (beginning_at others p edited.name imports) y.1 [] 0 blobs))
        (imports_stay laws.counted blobs sheets others p sheet new edited header runs)

  -- the node at the place, with its ids
  record Old (nodes : NodeList) : Type 0 where
    before : List Command
    next : ℕ
    entries : entries_at nodes p ≡ (cut sheet (aliases_in sheets p) before next).entries

  old_node : (nodes : NodeList) → AreCut (aliases_in sheets) 0 sheets nodes → Old nodes
  old_node nodes are_cut = go (slice_get nodes p) refl (subst (λ o. Cuts (aliases_in sheets p) o (slice_get nodes p)) at_old (cuts_at (aliases_in sheets) sheets nodes are_cut p))
    where
      go : (m : Option (List ℕ × Node)) → slice_get nodes p ≡ m → Cuts (aliases_in sheets p) (Some x) m → Old nodes
      go None at c = absurd c
      go (Some n) at c = record {
        before = c.1.before;
        next = c.1.next;
        entries = ap (λ (o : Option (List ℕ × Node)). option_map_or (λ (pair : List ℕ × Node). pair.1.entries) o []) at ∙ ap (λ (m : Node). m.entries) c.1.is;
      }

  pub taken_at : (tip old : NodeList) (next last : ℕ) (run : Run State) (e : Entry) (s : Setting State) → NodeComesTo (nodes_after tip sheets next).nodes blobs p run
      → slice_get (entries_at (nodes_after tip sheets next).nodes p) k ≡ Some e → slice_get run.commands k ≡ Some s → Suggests s text
      → IsUnbroken sheet.text (map (λ pair. pair.0) (aliases_at (nodes_after tip sheets next).nodes p).pairs) e.range.stop → Applies (edit e.range.stop text) sheet.text new
      → IsTakenAt (nodes_after old others last).nodes blobs p run sheet.text new text k
  taken_at tip old next last run e s comes entry_is command_is suggests unbroken applies =
      let are_cut = cut_after tip sheets next in
      let o = old_node (nodes_after tip sheets next).nodes are_cut in
      let begins = beginning_at sheets p edited.name given in
      let same : run ≡ run_of begins sheet o.before o.next blobs =
      old_run tip next run comes ∙ sym (same_ids laws.counted blobs sheet (aliases_in sheets p) o.before o.next (start_state edited.name given (aliases_at (uncut_all sheets) p))) in
      let taken = laws.taken sheets others p edited.name given sheet o.before [] o.next 0 blobs k e s text new edited
      (ap (λ es. slice_get es k) (sym o.entries) ∙ entry_is)
      (ap (λ (r : Run State). slice_get r.commands k) (sym same) ∙ command_is) suggests
      (subst (λ aliases. IsUnbroken sheet.text (map (λ pair. pair.0) aliases.pairs) e.range.stop) (sym (same_at (uncut_all sheets) (nodes_after tip sheets next).nodes (cut_heads (aliases_in sheets) 0 sheets (nodes_after tip sheets next).nodes are_cut) p)) unbroken)
      applies in
      record {
        new = run_of (beginning_at others p edited.name given) (record sheet { text = new }) [] 0 blobs;
        comes = new_run taken.header old last;
        taken = subst (λ r. IsTaken r (run_of (beginning_at others p edited.name given) (record sheet { text = new }) [] 0 blobs) sheet.text new text k) (sym same) taken;
      }
