-- What an update adds is the new version's.
use Rattle.std.proofs.Common.{◌≡◌, ℕ, Bool, true, false, List, map, Some, None, refl, ap, sym, ◌∙◌}
use Rattle.std.specs.Prelude.{slice_get}
use Rattle.std.proofs.lemmas.Bool.{eqb-true, and_parts}
use Rattle.text_words.specs.Members.{has}
use Rattle.shared_map.specs.Pairs.{IsSorted}
use Rattle.doc_nodes.specs.declared.node.Entry.{Entry}
use Rattle.doc_nodes.specs.declared.node.Node.{Node}
use Rattle.doc_nodes.specs.Names.{in_order}
use Rattle.exec_rules.specs.Listed.{Told}
use Rattle.core_rules.specs.Assigned.{command_ids}
use Rattle.core_rules.specs.Updates.{AllDiffer}
use Rattle.reply_messages.specs.declared.told.NodeRows.{NodeRows}
use Rattle.buffer_rules.specs.Cuts.{source}
use Rattle.buffer_rules.specs.Preparing.{Buffer}
use Rattle.mirror_rules.specs.Images.{Image}
use Rattle.mirror_rules.specs.Rows.{executions_of, rows_of}
use Rattle.mirror_rules.specs.Updates.{image_after}
use Rattle.text_words.proofs.KnownOptions.{one_of}
use Rattle.pide_mirror.specs.Kept.{told_rows, IsKept}
use Rattle.pide_mirror.specs.Places.{StandsAt, has_execution, PlaceTable, unreported, HaveSources}
use Rattle.pide_mirror.specs.Tables.{table_of}
use Rattle.pide_mirror.specs.Renewed.{gives, fresh_all, AreMade}
use Rattle.pide_mirror.specs.declared.known.Known.{Known}
use Rattle.pide_mirror.specs.declared.place.Place.{Place}
use Rattle.pide_mirror.specs.declared.renewing.NewRows.{NewRows}
use Rattle.text_words.proofs.KnownFinds.{any_at, any_from}
use Rattle.pide_mirror.proofs.KnownSources.{one_site}
use Rattle.pide_mirror.proofs.FreshRows.{fresh_from, fresh_there}
use Rattle.pide_mirror.proofs.Rowing.{any_gives, entry_there, all_from, all_there}
use Rattle.pide_mirror.proofs.Carrying.{rows_made, ids_made, made_gives}

module _ (known : Known) (im : Image) (kept : IsKept known im) (listed : List NodeRows) (buffer : Buffer) (made : List NewRows)
    (sorted : IsSorted in_order buffer.nodes) (differ : AllDiffer (command_ids buffer.nodes)) (same : HaveSources im.nodes buffer.nodes)
    (are : AreMade im listed buffer.nodes made) where
  abbrev new : Image
  new = image_after im listed buffer

  abbrev old : PlaceTable
  old = table_of known.places

  rows_are_made : (pair : List ℕ × Node) (e : Entry) (s : StandsAt buffer.nodes pair e) → rows_of new pair.0 ≡ told_rows (are s.node pair s.node_is).0.rows
  rows_are_made = rows_made known im kept listed buffer made sorted differ same are

  ids_are : (p : ℕ) (pair : List ℕ × Node) (at : slice_get buffer.nodes p ≡ Some pair) → map (λ r. r.0) (told_rows (are p pair at).0.rows) ≡ map (λ e. e.command) pair.1.entries
  ids_are = ids_made known im kept listed buffer made sorted differ same are

  gives_just : (p : ℕ) (pair : List ℕ × Node) (at : slice_get buffer.nodes p ≡ Some pair) (exec c : ℕ)
      → any_gives (are p pair at).0.rows exec c ≡ has (executions_of (told_rows (are p pair at).0.rows) c) exec
  gives_just = made_gives known im kept listed buffer made sorted differ same are

  -- what comes in is a command's that has the execution, with its source
  pub fresh_one : (exec c : ℕ) (place : Place) → fresh_all buffer.nodes made exec c ≡ Some place
      → (pair : List ℕ × Node) × (e : Entry) × StandsAt buffer.nodes pair e × (has_execution new pair e exec ≡ true) × (e.command ≡ c) × (place ≡ unreported (source pair.1.text e.range))
  fresh_one exec c place is =
      let a = all_from exec c buffer.nodes made place is in
      let pair = a.1 in
      let m = are a.0 pair a.3 in
      let rows_are : m.0 ≡ a.2 = one_of (slice_get made a.0) m.0 a.2 m.1 a.4 in
      let f = fresh_from pair.1.text exec c pair.1.entries a.2.rows place a.5 in
      let e = f.1 in
      let s : StandsAt buffer.nodes pair e = record { node = a.0; at = f.0; node_is = a.3; entry_is = f.3 } in
      let row_at : slice_get m.0.rows f.0 ≡ Some f.2 = ap (λ (x : NewRows). slice_get x.rows f.0) rows_are ∙ f.4 in
      let there = entry_there pair.1.entries m.0.rows f.0 f.2 (ids_are a.0 pair a.3) row_at in
      let mine : there.0 ≡ e = one_of (slice_get pair.1.entries f.0) there.0 e there.1 f.3 in
      let command : e.command ≡ c = sym (ap (λ (x : Entry). x.command) mine) ∙ there.2 ∙ eqb-true f.2.command c (and_parts _ _ f.5).0 in
      let given = any_at (λ row. gives row exec c) m.0.rows f.0 f.2 row_at f.5 in
      let has_it : has_execution new pair e exec ≡ true
      = ap (λ (rows : List Told). has (executions_of rows e.command) exec) (rows_are_made pair e s) ∙ ap (λ d. has (executions_of (told_rows m.0.rows) d) exec) command
      ∙ sym (gives_just a.0 pair a.3 exec c) ∙ given in
      (pair, e, s, has_it, command, f.6)

  -- a node that stays has in the tip what it has in the new version
  has_before : (pair : List ℕ × Node) (e : Entry) (exec : ℕ) (s : StandsAt buffer.nodes pair e) → has_execution new pair e exec ≡ true
      → (are s.node pair s.node_is).0.stays ≡ true → (place : Place) × (old exec e.command ≡ Some place)
  has_before pair e exec s is stays =
      let m = (are s.node pair s.node_is).2 in
      let q = m.stays stays in
      let before : has_execution im pair e exec ≡ true
      = ap (λ (rows : List Told). has (executions_of rows e.command) exec) (m.same stays ∙ sym (rows_are_made pair e s)) ∙ is in
      (_, kept.places.there pair e exec (record { node = q.0; at = s.at; node_is = q.1; entry_is = s.entry_is }) before)

  -- a command that has a new execution comes in
  pub comes_in : (pair : List ℕ × Node) (e : Entry) (exec : ℕ) → StandsAt buffer.nodes pair e → has_execution new pair e exec ≡ true
      → old exec e.command ≡ None → fresh_all buffer.nodes made exec e.command ≡ Some (unreported (source pair.1.text e.range))
  comes_in pair e exec s is none =
      let m = are s.node pair s.node_is in
      let given = gives_just s.node pair s.node_is exec e.command ∙ ap (λ (rows : List Told). has (executions_of rows e.command) exec) (sym (rows_are_made pair e s)) ∙ is in
      let row = any_from (λ r. gives r exec e.command) m.0.rows given in
      let entry = entry_there pair.1.entries m.0.rows row.0 row.1 (ids_are s.node pair s.node_is) row.2 in
      let here = fresh_there pair.1.text exec e.command pair.1.entries m.0.rows row.0 entry.0 row.1 entry.1 row.2 row.3 in
      let found = all_there exec e.command buffer.nodes made s.node pair m.0 here.0 s.node_is m.1 (moved m.0.stays refl) here.1 in
      let one = fresh_one exec e.command found.0 found.1 in
      let site = one_site buffer.nodes one.2.node one.2.at s.node s.at one.0 pair one.1 e differ one.2.node_is one.2.entry_is s.node_is s.entry_is one.4 in
      found.1 ∙ ap (λ p. Some p) (one.5 ∙ ap (λ (x : Entry). unreported (source one.0.1.text x.range)) site.1 ∙ ap (λ (p : List ℕ × Node). unreported (source p.1.text e.range)) site.0)
    where
      moved : (b : Bool) → (are s.node pair s.node_is).0.stays ≡ b → b ≡ false
      moved false is_b = refl
      moved true is_b = let there = has_before pair e exec s is is_b in let both : Some there.0 ≡ None = sym there.1 ∙ none in absurd (cc)
