-- A suggested proof is taken in the document that is checked from nothing after the edit.
use Rattle.std.proofs.Common.{◌≡◌, ℕ, zero, suc, ◌==◌, Bool, true, false, ◌||◌, List, [], ◌∷◌, ◌++◌, length, find, slice_get, Option, Some, None, refl, sym, ap, ap₂, ◌∙◌}
use Rattle.std.specs.Option.{option_map_or}
use Rattle.std.proofs.lemmas.Bool.{eq-eqb, eqb-true, false≢true}
use Rattle.text_words.specs.Members.{has}
use Rattle.nj_suggest.specs.Edits.{edit}
use Rattle.outer_syntax.specs.declared.parts.Header.{Header}
use Rattle.outer_syntax.specs.Reading.{header_in}
use Rattle.doc_nodes.specs.Aliases.{aliases_at}
use Rattle.doc_nodes.specs.Imports.{is_bad, order}
use Rattle.exec_rules.specs.Kept.{BlobList}
use Rattle.core_rules.specs.Scratch.{Runs, imports_run, run_node}
use Rattle.buffer_rules.specs.declared.sheet.Sheet.{Sheet}
use Rattle.buffer_rules.specs.Nodes.{cut, uncut, uncut_all}
use Rattle.buffer_rules.specs.Sheets.{SheetList}
use Rattle.isar_rules.specs.declared.state.State.{State}
use Rattle.isar_rules.specs.Isar.{isar}
use Rattle.isar_rules.specs.Starts.{start_state}
use Rattle.soundness_laws.specs.Suggesting.{IsEditedAt}
use Rattle.soundness_laws.proofs.EditedSheets.{same_headers}
use Rattle.soundness_laws.proofs.HeadRuns.{imports_same}
use Rattle.soundness_laws.proofs.SameAliases.{SameHeads, heads, order_same, same_at}
use Rattle.soundness_laws.proofs.SheetRuns.{Counted, all_in, one_in, run_in}

-- what stands at other places of a list with an item changed
other_place : {A : Type 0} (front back : List A) (x y : A) (q : ℕ) → (q ≡ length front → ⊥) → slice_get (front ++ x ∷ back) q ≡ slice_get (front ++ y ∷ back) q
other_place [] back x y zero other = absurd (other refl)
other_place [] back x y (suc q) other = refl
other_place (z ∷ front) back x y zero other = refl
other_place (z ∷ front) back x y (suc q) other = other_place front back x y q (λ e. other (ap suc e))

pub this_place : {A : Type 0} (front back : List A) (x : A) → slice_get (front ++ x ∷ back) (length front) ≡ Some x
this_place [] back x = refl
this_place (z ∷ front) back x = this_place front back x

module _ (counted : Counted) (blobs : BlobList) (sheets others : SheetList) (p : ℕ) (sheet : Sheet) (new : List ℕ) (edited : IsEditedAt sheets others p sheet new)
    (header : header_in new ≡ header_in sheet.text) where
  abbrev changed : Sheet
  changed = record sheet { text = new }

  same : SameHeads (uncut_all others) (uncut_all sheets)
  same = heads others sheets (same_headers sheets others p sheet new edited header)

  pub at_place : slice_get sheets p ≡ Some (edited.name, sheet)
  at_place = ap₂ slice_get edited.old_is (sym edited.stands) ∙ this_place edited.front edited.back (edited.name, sheet)

  pub at_new : slice_get others p ≡ Some (edited.name, changed)
  at_new = ap₂ slice_get edited.new_is (sym edited.stands) ∙ this_place edited.front edited.back (edited.name, changed)

  elsewhere : (q : ℕ) → (q == p) ≡ false → slice_get others q ≡ slice_get sheets q
  elsewhere q other = ap (λ l. slice_get l q) edited.new_is
      ∙ other_place edited.front edited.back (edited.name, changed) (edited.name, sheet) q (λ e. false≢true (sym other ∙ eq-eqb q p (e ∙ edited.stands)))
      ∙ sym (ap (λ l. slice_get l q) edited.old_is)

  pub aliases_stay : (q : ℕ) → aliases_at (uncut_all others) q ≡ aliases_at (uncut_all sheets) q
  aliases_stay q = same_at (uncut_all others) (uncut_all sheets) same q

  pub order_stays : order (uncut_all others) ≡ order (uncut_all sheets)
  order_stays = order_same (uncut_all others) (uncut_all sheets) same

  -- other nodes come to the same
  run_stays : (runs : Runs State) (q : ℕ) (x : List ℕ × Sheet) → run_in counted blobs others runs q x ≡ run_in counted blobs sheets runs q x
  run_stays runs q x = ap₂ (λ imports aliases. run_node isar (cut x.1 aliases.pairs [] 0) blobs
      (start_state x.0 imports aliases))
      (imports_same (uncut_all others) (uncut_all sheets) same runs (uncut x.1).imports) (aliases_stay q)

  one_stays : (runs : Runs State) (q : ℕ) → (q == p) ≡ false
      → one_in counted blobs others runs q (slice_get others q) ≡ one_in counted blobs sheets runs q (slice_get sheets q)
  one_stays runs q other = ap (one_in counted blobs others runs q) (elsewhere q other) ∙ go (slice_get sheets q)
    where
      go : (o : Option (List ℕ × Sheet)) → one_in counted blobs others runs q o ≡ one_in counted blobs sheets runs q o
      go None = refl
      go (Some x) = ap (λ run. (q, run) ∷ runs) (run_stays runs q x)

  pub front_stays : (qs : List ℕ) (runs : Runs State) → has qs p ≡ false → all_in counted blobs others qs runs ≡ all_in counted blobs sheets qs runs
  front_stays [] runs none = refl
  front_stays (q ∷ qs) runs none =
      ap (all_in counted blobs others qs) (one_stays runs q (differs (q == p) refl (p == q) refl none))
      ∙ front_stays qs (one_in counted blobs sheets runs q (slice_get sheets q)) (rest (p == q) none)
    where
      rest : (b : Bool) → (b || has qs p) ≡ false → has qs p ≡ false
      rest true none = absurd (false≢true (sym none))
      rest false none = none

      differs : (b : Bool) → (q == p) ≡ b → (c : Bool) → (p == q) ≡ c → (c || has qs p) ≡ false → b ≡ false
      differs false e c f none = refl
      differs true e true f none = absurd (false≢true (sym none))
      differs true e false f none = absurd (false≢true (sym f ∙ eq-eqb p q (sym (eqb-true q p e))))

  -- what the node begins with is the same
  pub imports_stay : (runs : Runs State)
      → imports_run isar (uncut_all others) runs (uncut changed).imports (find (is_bad (uncut_all others)) (uncut changed).imports)
      ≡ imports_run isar (uncut_all sheets) runs (uncut sheet).imports (find (is_bad (uncut_all sheets)) (uncut sheet).imports)
  imports_stay runs =
      imports_same (uncut_all others) (uncut_all sheets) same runs (uncut changed).imports
      ∙ ap (λ (o : Option Header). imports_run isar (uncut_all sheets) runs (option_map_or (λ h. h.imports) o []) (find (is_bad (uncut_all sheets)) (option_map_or (λ h. h.imports) o []))) header
