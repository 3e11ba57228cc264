-- What is told of a part is there.
use Rattle.std.proofs.Common.{◌≡◌, ℕ, zero, suc, Bool, true, false, List, [], ◌∷◌, Some, refl, ap}
use Rattle.std.proofs.lemmas.Bool.{and_parts}
use Rattle.std.specs.Prelude.{slice_get, flat_map, ◌==◌, if◌then◌else◌}
use Rattle.std.specs.Option.{option_map}
use Rattle.std.specs.List.{AllByRecursion}
use Rattle.text_words.proofs.KnownLists.{each-both, each-so}
use Rattle.doc_nodes.specs.declared.node.Entry.{Entry}
use Rattle.doc_nodes.specs.declared.node.Node.{Node}
use Rattle.mirror_rules.specs.Images.{FinishedPart, Image}
use Rattle.mirror_rules.specs.Reports.{PartReport, belongs_to, finished_at, finished_by, with_report}
use Rattle.mirror_rules.specs.Rows.{rows_of}
use Rattle.pide_mirror.specs.Places.{StandsAt, PlaceTable, ArePlaced, told_at, told_in, IsThere, AreThere}
use Rattle.pide_mirror.specs.declared.place.Place.{Place}

module _ (told : PartReport) (table : PlaceTable) (im : Image) (placed : ArePlaced table im) where
  kept_there : (f : FinishedPart) → IsThere table f → IsThere (told_in told table) f
  kept_there f there = go (told.part.exec == f.part.exec)
    where
      go : (b : Bool) → (place : Place) × ((if b then option_map (told_at told) (table f.part.exec f.command) else table f.part.exec f.command) ≡ Some place)
      go true = (told_at told there.0, ap (option_map (told_at told)) there.1)
      go false = there

  one_there : (pair : List ℕ × Node) (e : Entry) → StandsAt im.nodes pair e
      → AllByRecursion (IsThere (told_in told table)) (finished_by told pair.1 (rows_of im pair.0) e)
  one_there pair e s = go (belongs_to told pair.1 (rows_of im pair.0) e) refl
    where
      go : (b : Bool) → belongs_to told pair.1 (rows_of im pair.0) e ≡ b
          → AllByRecursion (IsThere (told_in told table)) (if b then finished_at told pair.1 e ∷ [] else [])
      go true is = (kept_there (finished_at told pair.1 e) (_, placed.there pair e told.part.exec s (and_parts _ _ is).0), tt)
      go false is = tt

  all_flat : {A : Type 0} (g : A → List FinishedPart) (xs : List A)
      → ((i : ℕ) (x : A) → slice_get xs i ≡ Some x → AllByRecursion (IsThere (told_in told table)) (g x))
      → AllByRecursion (IsThere (told_in told table)) (flat_map g xs)
  all_flat g [] each = tt
  all_flat g (x ∷ xs) each = each-both (IsThere (told_in told table)) (g x) (flat_map g xs) (each zero x refl) (all_flat g xs (λ i y at. each (suc i) y at))

  -- what is reported is there
  pub there_told : AreThere table im → AreThere (told_in told table) (with_report told im)
  there_told all = each-both (IsThere (told_in told table)) _ im.finished
      (all_flat (λ pair. flat_map (finished_by told pair.1 (rows_of im pair.0)) pair.1.entries) im.nodes (λ q pair node_is.
      all_flat (finished_by told pair.1 (rows_of im pair.0)) pair.1.entries (λ i e entry_is.
      one_there pair e (record { node = q; at = i; node_is = node_is; entry_is = entry_is }))))
      (each-so (IsThere table) (IsThere (told_in told table)) kept_there im.finished all)
