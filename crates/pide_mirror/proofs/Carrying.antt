-- What an update leaves is the new version's.
use Rattle.std.proofs.Common.{◌≡◌, ℕ, Bool, true, false, List, [], ◌∷◌, map, Option, Some, refl, ap, sym, ◌∙◌}
use Rattle.std.specs.Prelude.{slice_get, not, ◌==◌, if◌then◌else◌}
use Rattle.std.specs.Option.{option_and_then}
use Rattle.std.proofs.lemmas.Bool.{eqb-true, and_parts, false≢true}
use Rattle.text_words.specs.Members.{has}
use Rattle.text_words.proofs.KnownOptions.{one_of}
use Rattle.text_words.proofs.KnownFinds.{any_from}
use Rattle.shared_map.specs.Pairs.{IsSorted}
use Rattle.doc_nodes.specs.declared.node.Entry.{Entry}
use Rattle.doc_nodes.specs.declared.node.Node.{Node}
use Rattle.doc_nodes.specs.Names.{in_order}
use Rattle.doc_nodes.proofs.KnownPlaces.{place_named}
use Rattle.exec_rules.specs.Listed.{Told}
use Rattle.core_rules.specs.Assigned.{command_ids}
use Rattle.core_rules.specs.Updates.{AllDiffer}
use Rattle.core_rules.proofs.KnownCommands.{differ_at}
use Rattle.reply_messages.specs.declared.told.CommandRow.{CommandRow}
use Rattle.reply_messages.specs.declared.told.NodeRows.{NodeRows}
use Rattle.buffer_rules.specs.Preparing.{Buffer}
use Rattle.mirror_rules.specs.Images.{Image}
use Rattle.mirror_rules.specs.Rows.{executions_of, rows_of, rows_by}
use Rattle.mirror_rules.specs.Updates.{image_after}
use Rattle.pide_mirror.specs.Kept.{told_rows, IsKept}
use Rattle.pide_mirror.specs.Places.{StandsAt, has_execution, PlaceTable, HaveSources}
use Rattle.pide_mirror.specs.Tables.{table_of}
use Rattle.pide_mirror.specs.Renewed.{gives, is_stale, stale_of, stale_in, made_for, AreMade}
use Rattle.pide_mirror.specs.declared.known.Known.{Known}
use Rattle.pide_mirror.specs.declared.place.Place.{Place}
use Rattle.pide_mirror.specs.declared.renewing.NewRows.{NewRows}
use Rattle.pide_mirror.proofs.Updating.{rows_there}
use Rattle.pide_mirror.proofs.KnownSources.{one_site}
use Rattle.pide_mirror.proofs.Rowing.{any_gives, gives_has, entry_there, rows_differ, stale_from, stale_gives}

pub ids_by : (es : List Entry) (rows : List Told) → map (λ r. r.0) (rows_by es rows) ≡ map (λ e. e.command) es
ids_by [] rows = refl
ids_by (e ∷ es) rows = ap (λ ids. e.command ∷ ids) (ids_by es rows)

module _ (known : Known) (im : Image) (kept : IsKept known im) (listed : List NodeRows) (buffer : Buffer) (made : List NewRows)
    (sorted : IsSorted in_order buffer.nodes) (differ : AllDiffer (command_ids buffer.nodes)) (same : HaveSources im.nodes buffer.nodes)
    (are : AreMade im listed buffer.nodes made) where
  abbrev new : Image
  new = image_after im listed buffer

  abbrev for : List ℕ → Option NewRows
  for = made_for buffer.nodes made

  abbrev old : PlaceTable
  old = table_of known.places

  -- a node's new rows are those that were made for it
  pub rows_made : (pair : List ℕ × Node) (e : Entry) (s : StandsAt buffer.nodes pair e) → rows_of new pair.0 ≡ told_rows (are s.node pair s.node_is).0.rows
  rows_made pair e s = rows_there im listed buffer sorted pair e s ∙ sym (are s.node pair s.node_is).2.rows

  pub ids_made : (p : ℕ) (pair : List ℕ × Node) (at : slice_get buffer.nodes p ≡ Some pair) → map (λ r. r.0) (told_rows (are p pair at).0.rows) ≡ map (λ e. e.command) pair.1.entries
  ids_made p pair at = ap (map (λ r. r.0)) (are p pair at).2.rows ∙ ids_by pair.1.entries _

  -- a command has just what a row gives it
  pub made_gives : (p : ℕ) (pair : List ℕ × Node) (at : slice_get buffer.nodes p ≡ Some pair) (exec c : ℕ)
      → any_gives (are p pair at).0.rows exec c ≡ has (executions_of (told_rows (are p pair at).0.rows) c) exec
  made_gives p pair at exec c = gives_has (are p pair at).0.rows exec c (rows_differ pair.1.entries _ (ids_made p pair at) (differ_at buffer.nodes p pair differ at))

  pub tip_gives : (q : ℕ) (pair : List ℕ × Node) (at : slice_get im.nodes q ≡ Some pair) (exec c : ℕ)
      → any_gives (kept.rows q pair at).0 exec c ≡ has (executions_of (rows_of im pair.0) c) exec
  tip_gives q pair at exec c =
      let r = kept.rows q pair at in
      gives_has r.0 exec c (rows_differ pair.1.entries r.0 (ap (map (λ x. x.0)) (sym r.2) ∙ kept.aligned q pair at) (differ_at im.nodes q pair kept.differ at))
      ∙ ap (λ (rows : List Told). has (executions_of rows c) exec) (sym r.2)

  -- what is found for a name
  pub for_named : (p : ℕ) (pair : List ℕ × Node) (at : slice_get buffer.nodes p ≡ Some pair) → for pair.0 ≡ Some (are p pair at).0
  for_named p pair at = ap (option_and_then (slice_get made)) (place_named buffer.nodes p pair sorted at) ∙ (are p pair at).1

  -- what has its execution still isn't stale
  pub not_stale : (pair : List ℕ × Node) (e : Entry) (exec : ℕ) → StandsAt buffer.nodes pair e → has_execution new pair e exec ≡ true
      → (place : Place) → old exec e.command ≡ Some place → stale_in for known.nodes known.rows exec e.command ≡ false
  not_stale pair e exec s is place at = go (stale_in for known.nodes known.rows exec e.command) refl
    where
      mine : has (executions_of (told_rows (are s.node pair s.node_is).0.rows) e.command) exec ≡ true
      mine = ap (λ (rows : List Told). has (executions_of rows e.command) exec) (sym (rows_made pair e s)) ∙ is

      stays : (m : NewRows) → has (executions_of (told_rows m.rows) e.command) exec ≡ true → (rows : List CommandRow) → stale_of rows (Some m) exec e.command ≡ true → ⊥
      stays m own rows stale = by (m.stays) stale
        where
          by : (b : Bool) → (if b then false else is_stale rows (executions_of (told_rows m.rows)) exec e.command) ≡ true → ⊥
          by true a = false≢true a
          by false a = let b = (and_parts _ _ a).1 in let d : not (has (executions_of (told_rows m.rows) e.command) exec) ≡ false = ap not own in false≢true (sym d ∙ b)

      go : (b : Bool) → stale_in for known.nodes known.rows exec e.command ≡ b → b ≡ false
      go false stale = refl
      go true stale =
          let tip = kept.places.only exec e.command place at in
          let pair0 = tip.0 in
          let s0 = tip.2 in
          let named = (same pair pair0 e tip.1 s s0 (sym tip.4)).0 in
          let from = stale_from exec e.command for known.nodes known.rows stale in
          let n = from.1 in
          let node_at : slice_get im.nodes from.0 ≡ Some n = ap (λ ns. slice_get ns from.0) (sym kept.nodes) ∙ from.3 in
          let r = kept.rows from.0 n node_at in
          let rows_are : r.0 ≡ from.2 = one_of (slice_get known.rows from.0) r.0 from.2 r.1 from.4 in
          let gave = any_from (λ row. gives row exec e.command) from.2 (stale_gives from.2 (for n.0) exec e.command from.5) in
          let parts = and_parts (gave.1.command == e.command) _ gave.3 in
          let there = entry_there n.1.entries from.2 gave.0 gave.1 (ap (λ rs. map (λ x. x.0) (told_rows rs)) (sym rows_are) ∙ ap (map (λ x. x.0)) (sym r.2) ∙ kept.aligned from.0 n node_at) gave.2 in
          let one = one_site im.nodes from.0 gave.0 s0.node s0.at n pair0 there.0 tip.1 kept.differ node_at there.1 s0.node_is s0.entry_is
          (there.2 ∙ eqb-true gave.1.command e.command parts.0 ∙ sym tip.4) in
          let name : n.0 ≡ pair.0 = ap (λ (x : List ℕ × Node). x.0) one.0 ∙ named in
          let own : stale_of from.2 (Some (are s.node pair s.node_is).0) exec e.command ≡ true
          = ap (λ o. stale_of from.2 o exec e.command) (sym (ap for name ∙ for_named s.node pair s.node_is)) ∙ from.5 in
          absurd (stays (are s.node pair s.node_is).0 mine from.2 own)
