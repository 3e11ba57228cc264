-- The commands of a text that was cut are those of its sources.
use Rattle.std.proofs.Common.{◌≡◌, ℕ, zero, suc, List, [], ◌∷◌, length, map, slice_get, Some, refl, ap, ◌∙◌, arith}
use Rattle.std.specs.List.{zip}
use Rattle.std.proofs.lemmas.List.{length-map}
use Rattle.std.proofs.lemmas.Option.{same_Some}
use Rattle.pide_base.specs.declared.range.Range.{Range}
use Rattle.doc_nodes.specs.declared.node.Entry.{Entry}
use Rattle.exec_rules.specs.Kept.{BlobList}
use Rattle.doc_nodes.specs.Needs.{AliasList}
use Rattle.core_rules.specs.Settings.{state_behind}
use Rattle.core_rules.specs.Scratch.{run_from}
use Rattle.buffer_rules.specs.declared.sheet.Sheet.{Sheet}
use Rattle.buffer_rules.specs.Cuts.{source}
use Rattle.buffer_rules.specs.Nodes.{cut, entry, ranges_in, sources}
use Rattle.buffer_rules.specs.Numbers.{Command, ids_of}
use Rattle.isar_rules.specs.declared.state.State.{State}
use Rattle.isar_rules.specs.Isar.{isar}
use Rattle.soundness_laws.proofs.RunLemmas.{set, runs}

module _ (sheet : Sheet) (aliases : AliasList) (before : List Command) (next : ℕ) (blobs : BlobList) where
  run_is : (ones : List (ℕ × Range)) (state : State)
      → run_from isar (cut sheet aliases before next) blobs (map (entry sheet aliases) ones) state ≡ runs blobs aliases (map (λ one. source sheet.text one.1) ones) state
  run_is [] state = refl
  run_is (one ∷ ones) state =
      ap (λ r. set blobs aliases (source sheet.text one.1) state ∷ r) (run_is ones (state_behind isar (set blobs aliases (source sheet.text one.1) state)))

  ids : List ℕ
  ids = ids_of before (sources sheet aliases) next

  seconds : (A : Type 0) (f : Range → A) (xs : List ℕ) (rs : List Range) → length xs ≡ length rs → map (λ (one : ℕ × Range). f one.1) (zip xs rs) ≡ map f rs
  seconds A f [] [] size = refl
  seconds A f [] (r ∷ rs) size = absurd (omega (arith, size))
  seconds A f (x ∷ xs) [] size = absurd (omega (arith, size))
  seconds A f (x ∷ xs) (r ∷ rs) size = ap (λ ys. f r ∷ ys) (seconds A f xs rs (omega (arith, size)))

  -- the commands, where there are as many ids as sources
  pub commands_are : (state : State) → length (ids_of before (sources sheet aliases) next) ≡ length (sources sheet aliases)
      → run_from isar (cut sheet aliases before next) blobs (cut sheet aliases before next).entries state ≡ runs blobs aliases (sources sheet aliases) state
  unfolding ids
  commands_are state counted =
      run_is (zip ids (ranges_in sheet aliases)) state
      ∙ ap (λ xs. runs blobs aliases xs state) (seconds (List ℕ) (source sheet.text) ids (ranges_in sheet aliases) (counted ∙ length-map (ranges_in sheet aliases) (source sheet.text)))

  range_at : (xs : List ℕ) (rs : List Range) (k : ℕ) (e : Entry) → slice_get (map (entry sheet aliases) (zip xs rs)) k ≡ Some e → slice_get rs k ≡ Some e.range
  range_at [] rs k e is = cc
  range_at (x ∷ xs) [] k e is = cc
  range_at (x ∷ xs) (r ∷ rs) zero e is = ap (λ (o : Entry). Some o.range) (same_Some (entry sheet aliases (x, r)) e is)
  range_at (x ∷ xs) (r ∷ rs) (suc k) e is = range_at xs rs k e is

  -- where an entry stands
  pub entry_range : (k : ℕ) (e : Entry) → slice_get (cut sheet aliases before next).entries k ≡ Some e → slice_get (ranges_in sheet aliases) k ≡ Some e.range
  entry_range k e is = range_at (ids_of before (sources sheet aliases) next) (ranges_in sheet aliases) k e is
