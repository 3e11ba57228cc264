-- What was made for an update is the new version.
use Rattle.std.proofs.Common.{◌≡◌, ℕ, Bool, true, false, List, [], map, Option, Some, None, refl, ap, sym, subst, ◌∙◌}
use Rattle.std.specs.Prelude.{find, slice_get, if◌then◌else◌}
use Rattle.std.specs.Borrow.{Bor}
use Rattle.std.specs.Option.{option_map, option_map_or, option_and_then, option_or}
use Rattle.shared_map.specs.Pairs.{IsSorted}
use Rattle.doc_nodes.specs.declared.node.Node.{Node}
use Rattle.doc_nodes.specs.Names.{in_order, equal}
use Rattle.doc_nodes.specs.Imports.{NodeList, place_of}
use Rattle.exec_rules.specs.Listed.{Told}
use Rattle.core_rules.proofs.KnownCommands.{differ_at}
use Rattle.core_rules.proofs.KnownPlaces.{place_found}
use Rattle.buffer_rules.specs.Preparing.{Buffer}
use Rattle.reply_messages.specs.declared.told.CommandRow.{CommandRow}
use Rattle.reply_messages.specs.declared.told.NodeRows.{NodeRows}
use Rattle.mirror_rules.specs.Images.{Image}
use Rattle.mirror_rules.specs.Rows.{listed_for, node_rows, rows_by, rows_of}
use Rattle.mirror_rules.specs.Updates.{image_after}
use Rattle.pide_mirror.specs.InForce.{AreInForce}
use Rattle.pide_mirror.specs.Kept.{told_rows, IsKept}
use Rattle.pide_mirror.specs.Listing.{listed_at, is_of}
use Rattle.pide_mirror.specs.Making.{tip_rows, is_marked, rows_from, IsMadeBy, AreMadeBy, FitsTip}
use Rattle.pide_mirror.specs.Renewed.{made_for, stale_in, fresh_all, IsMade, AreMade}
use Rattle.pide_mirror.specs.Tables.{table_of}
use Rattle.pide_mirror.specs.declared.known.Known.{Known}
use Rattle.pide_mirror.specs.declared.renewing.NewRows.{NewRows}
use Rattle.pide_mirror.proofs.Named.{find_by, none_named, of_named, rows_own}
use Rattle.pide_mirror.proofs.KnownSources.{node_stands}
use Rattle.text_words.proofs.KnownFinds.{map_get}
use Rattle.pide_mirror.proofs.NodesFound.{found_named}
use Rattle.pide_mirror.proofs.Updating.{places_renewed, there_renewed}
use Rattle.pide_mirror.proofs.Carrying.{ids_by}
use Rattle.pide_mirror.proofs.KeptOn.{comes_out_renewed}

abbrev all_or : Option (List CommandRow) → List CommandRow
all_or rows = option_map_or (λ rows. rows) rows []

-- the rows that are kept of a name are the image's
tip_rows_are : (known : Known) (im : Image) → IsKept known im → (name : List ℕ) → told_rows (all_or (tip_rows known name)) ≡ rows_of im name
tip_rows_are known im kept name =
    ap (λ ns. told_rows (all_or (option_and_then (slice_get known.rows) (place_of ns name)))) kept.nodes ∙ go (place_of im.nodes name) refl
  where
    go : (o : Option ℕ) → place_of im.nodes name ≡ o → told_rows (all_or (option_and_then (slice_get known.rows) o)) ≡ rows_of im name
    go None none = sym (kept.others name none)
    go (Some q) is =
        let there = place_found im.nodes name q is in
        let r = kept.rows q there.pair there.stands in
        ap (λ o. told_rows (all_or o)) r.1 ∙ sym r.2 ∙ ap (rows_of im) there.named

module _ (known : Known) (im : Image) (kept : IsKept known im) (listed : List NodeRows) (buffer : Buffer) (made : List NewRows)
    (marks : List Bool) (listing : List (ℕ × Bor NodeRows)) (sorted : IsSorted in_order buffer.nodes) (fits : FitsTip im marks buffer.nodes)
    (lists : (p : ℕ) → listed_at listing p ≡ find (is_of buffer.nodes p) listed) (by : AreMadeBy known marks listing buffer.nodes made) where
  abbrev new : Image
  new = image_after im listed buffer

  -- what is listed of a node
  listed_is : (p : ℕ) (pair : List ℕ × Node) → slice_get buffer.nodes p ≡ Some pair
      → listed_for listed pair.0 ≡ option_map (λ n. told_rows n.rows) (listed_at listing p)
  listed_is p pair at = sym (ap (option_map (λ (n : NodeRows). told_rows n.rows))
      (lists p ∙ find_by (is_of buffer.nodes p) (λ n. equal n.node pair.0) listed (of_named buffer.nodes p pair sorted at)))

  -- a node's rows where nothing is listed
  unlisted : (p : ℕ) (pair : List ℕ × Node) → slice_get buffer.nodes p ≡ Some pair → listed_at listing p ≡ None
      → (node_rows im listed pair).1 ≡ rows_by pair.1.entries (rows_of im pair.0)
  unlisted p pair at none = ap (λ o. rows_by pair.1.entries (option_map_or (λ (rows : List Told). rows) o (rows_of im pair.0)))
      (listed_is p pair at ∙ ap (option_map (λ (n : NodeRows). told_rows n.rows)) none)

  marked_is : (o : Option Bool) → option_map_or (λ mark. mark) o false ≡ true → o ≡ Some true
  marked_is None is = absurd (cc)
  marked_is (Some b) is = ap (λ x. Some x) is

  made_one : (p : ℕ) (pair : List ℕ × Node) (made_new : NewRows) → slice_get buffer.nodes p ≡ Some pair
      → IsMadeBy known (is_marked marks p) (listed_at listing p) pair made_new → IsMade im listed pair made_new
  made_one p pair made_new at one = record { rows = go made_new.stays refl; stays = λ is. (here is).0; same = λ is. (here is).1 }
    where
      here : made_new.stays ≡ true → ((q : ℕ) × (slice_get im.nodes q ≡ Some pair)) × (rows_of im pair.0 ≡ told_rows made_new.rows)
      here is =
          let facts = one.stays is in
          let n = node_stands im.nodes pair.0 pair.1 (fits.kept p pair (marked_is (slice_get marks p) facts.0) at) in
          let same : n.1 ≡ pair = ap (λ x. (x, n.1.1)) n.4 ∙ ap (λ x. (pair.0, x)) n.3 in (
            (n.0, n.2 ∙ ap (λ x. Some x) same),
            sym (tip_rows_are known im kept pair.0) ∙ ap (λ o. told_rows (all_or o)) facts.2,
          )

      chosen : (o : Option NodeRows) → listed_at listing p ≡ o → told_rows (rows_from o (tip_rows known pair.0))
          ≡ option_map_or (λ rows. rows) (listed_for listed pair.0) (rows_of im pair.0)
      chosen None is = tip_rows_are known im kept pair.0 ∙ sym (ap (λ o. option_map_or (λ (rows : List Told). rows) o (rows_of im pair.0))
          (listed_is p pair at ∙ ap (option_map (λ (n : NodeRows). told_rows n.rows)) is))
      chosen (Some n) is = sym (ap (λ o. option_map_or (λ (rows : List Told). rows) o (rows_of im pair.0))
          (listed_is p pair at ∙ ap (option_map (λ (n : NodeRows). told_rows n.rows)) is))

      go : (b : Bool) → made_new.stays ≡ b → told_rows made_new.rows ≡ (node_rows im listed pair).1
      go true is =
          let stay = here is in
          let own = rows_own pair.1.entries (rows_of im pair.0) (kept.aligned stay.0.0 pair stay.0.1) (differ_at im.nodes stay.0.0 pair kept.differ stay.0.1) in
          sym stay.1 ∙ sym own ∙ sym (unlisted p pair at (one.stays is).1)
      go false is = one.changes is ∙ ap (λ rows. rows_by pair.1.entries rows)
          (chosen (listed_at listing p) refl)

  are_made : AreMade im listed buffer.nodes made
  are_made p pair at = let one = by p pair at in (one.0, one.1, made_one p pair one.0 at one.2)

  -- so what is made of these is the new version
  pub version_kept : (after : Known) → after.nodes ≡ buffer.nodes → after.rows ≡ map (λ n. n.rows) made
      → ((e c : ℕ) → table_of after.places e c ≡ option_or (if stale_in (made_for buffer.nodes made) known.nodes known.rows e c
      then None else table_of known.places e c) (fresh_all buffer.nodes made e c))
      → AreInForce buffer.nodes after.aliases → IsKept after new
  version_kept after nodes rows places aliases =
      let renewed = comes_out_renewed known im kept listed buffer made sorted fits.differ fits.sources are_made (table_of after.places) places in
      record {
        nodes = nodes;
        sorted = sorted;
        differ = fits.differ;
        rows = λ p pair at.
            let one = are_made p pair at in (
              one.0.rows,
              ap (λ all. slice_get all p) rows ∙ map_get (λ (n : NewRows). n.rows) made p one.0 one.1,
              ap (λ o. option_map_or (λ (rs : List Told). rs) o []) (found_named (λ x. (node_rows im listed x).1) buffer.nodes p pair sorted at) ∙ sym one.2.rows,
            );
        aligned = λ p pair at.
            ap (λ o. map (λ (r : Told). r.0) (option_map_or (λ (rs : List Told). rs) o []))
            (found_named (λ x. (node_rows im listed x).1) buffer.nodes p pair sorted at)
            ∙ ids_by pair.1.entries _;
        others = λ name none. ap (λ o. option_map_or (λ (rs : List Told). rs) o []) (none_named (λ x. (node_rows im listed x).1) buffer.nodes name none);
        aliases = aliases;
        places = places_renewed im listed buffer sorted (table_of known.places) (table_of after.places) kept.places kept.there fits.sources renewed;
        there = there_renewed im listed buffer sorted (table_of known.places) (table_of after.places) kept.places kept.there fits.sources renewed;
      }

-- the same of nodes that are the buffer's
pub renewed_kept : (known : Known) (im : Image) → IsKept known im → (listed : List NodeRows) (buffer : Buffer) (nodes : NodeList) (made : List NewRows)
    (marks : List Bool) (listing : List (ℕ × Bor NodeRows)) (after : Known) → buffer.nodes ≡ nodes → IsSorted in_order nodes → FitsTip im marks nodes
    → ((p : ℕ) → listed_at listing p ≡ find (is_of nodes p) listed) → AreMadeBy known marks listing nodes made
    → after.nodes ≡ nodes → after.rows ≡ map (λ n. n.rows) made
    → ((e c : ℕ) → table_of after.places e c ≡ option_or (if stale_in (made_for nodes made) known.nodes known.rows e c
    then None else table_of known.places e c) (fresh_all nodes made e c))
    → AreInForce nodes after.aliases → IsKept after (image_after im listed buffer)
renewed_kept known im kept listed buffer nodes made marks listing after same = subst (λ (ns : NodeList). IsSorted in_order ns → FitsTip im marks ns
    → ((p : ℕ) → listed_at listing p ≡ find (is_of ns p) listed) → AreMadeBy known marks listing ns made
    → after.nodes ≡ ns → after.rows ≡ map (λ n. n.rows) made
    → ((e c : ℕ) → table_of after.places e c ≡ option_or (if stale_in (made_for ns made) known.nodes known.rows e c
    then None else table_of known.places e c) (fresh_all ns made e c))
    → AreInForce ns after.aliases → IsKept after (image_after im listed buffer)) same
    (λ sorted fits lists by at rows places aliases. version_kept known im kept listed buffer made marks listing sorted fits lists by after at rows places aliases)
