-- So what comes out is the new version's.
use Rattle.std.proofs.Common.{◌≡◌, ℕ, Bool, true, false, List, Option, Some, None, refl, ap, sym, ◌∙◌}
use Rattle.std.specs.Prelude.{slice_get, not, ◌&&◌, if◌then◌else◌}
use Rattle.std.specs.Option.{option_or, option_and_then}
use Rattle.std.proofs.lemmas.Bool.{false≢true}
use Rattle.text_words.specs.Members.{has}
use Rattle.shared_map.specs.Pairs.{IsSorted}
use Rattle.doc_nodes.specs.declared.node.Entry.{Entry}
use Rattle.doc_nodes.specs.declared.node.Node.{Node}
use Rattle.doc_nodes.specs.Names.{in_order}
use Rattle.doc_nodes.specs.Imports.{place_of}
use Rattle.doc_nodes.proofs.KnownPlaces.{place_named}
use Rattle.exec_rules.specs.Listed.{Told}
use Rattle.core_rules.specs.Assigned.{command_ids}
use Rattle.core_rules.specs.Updates.{AllDiffer}
use Rattle.core_rules.proofs.KnownPlaces.{place_found}
use Rattle.reply_messages.specs.declared.told.CommandRow.{CommandRow}
use Rattle.reply_messages.specs.declared.told.NodeRows.{NodeRows}
use Rattle.buffer_rules.specs.Cuts.{source}
use Rattle.buffer_rules.specs.Preparing.{Buffer}
use Rattle.mirror_rules.specs.Images.{Image}
use Rattle.mirror_rules.specs.Rows.{executions_of, rows_of, node_rows}
use Rattle.mirror_rules.specs.Updates.{image_after}
use Rattle.text_words.proofs.KnownOptions.{one_of}
use Rattle.pide_mirror.specs.Kept.{told_rows, IsKept}
use Rattle.pide_mirror.specs.Places.{StandsAt, has_execution, PlaceTable, or_unreported, AreRenewed, HaveSources}
use Rattle.pide_mirror.specs.Tables.{table_of}
use Rattle.pide_mirror.specs.Renewed.{is_stale, stale_of, stale_in, made_for, fresh_all, AreMade}
use Rattle.pide_mirror.specs.declared.known.Known.{Known}
use Rattle.pide_mirror.specs.declared.place.Place.{Place}
use Rattle.pide_mirror.specs.declared.renewing.NewRows.{NewRows}
use Rattle.pide_mirror.proofs.NodesFound.{row_there}
use Rattle.pide_mirror.proofs.Rowing.{any_gives, stale_at}
use Rattle.pide_mirror.proofs.Carrying.{rows_made, tip_gives, for_named, not_stale}
use Rattle.pide_mirror.proofs.Added.{fresh_one, comes_in}

module _ (known : Known) (im : Image) (kept : IsKept known im) (listed : List NodeRows) (buffer : Buffer) (made : List NewRows)
    (sorted : IsSorted in_order buffer.nodes) (differ : AllDiffer (command_ids buffer.nodes)) (same : HaveSources im.nodes buffer.nodes)
    (are : AreMade im listed buffer.nodes made) where
  abbrev new : Image
  new = image_after im listed buffer

  abbrev for : List ℕ → Option NewRows
  for = made_for buffer.nodes made

  abbrev old : PlaceTable
  old = table_of known.places

  -- what isn't stale has its execution still
  still_has : (exec c : ℕ) (place : Place) → stale_in for known.nodes known.rows exec c ≡ false → old exec c ≡ Some place
      → (pair : List ℕ × Node) × (e : Entry) × StandsAt buffer.nodes pair e × (has_execution new pair e exec ≡ true) × (e.command ≡ c)
  still_has exec c place kept_on at =
      let tip = kept.places.only exec c place at in
      let pair0 = tip.0 in
      let e0 = tip.1 in
      let s0 = tip.2 in
      let r = kept.rows s0.node pair0 s0.node_is in
      let node_at : slice_get known.nodes s0.node ≡ Some pair0 = ap (λ ns. slice_get ns s0.node) kept.nodes ∙ s0.node_is in
      let out = stale_at exec c for known.nodes known.rows s0.node pair0 r.0 node_at r.1 kept_on in
      let given : any_gives r.0 exec c ≡ true
      = tip_gives known im kept listed buffer made sorted differ same are s0.node pair0 s0.node_is exec c ∙ ap (λ d. has (executions_of (rows_of im pair0.0) d) exec) (sym tip.4) ∙ tip.3 in
      by_place (place_of buffer.nodes pair0.0) refl pair0 e0 s0 tip.4 tip.3 r.0 out given
    where
      abbrev_site : Type 0
      abbrev_site = (pair : List ℕ × Node) × (e : Entry) × StandsAt buffer.nodes pair e × (has_execution new pair e exec ≡ true) × (e.command ≡ c)

      gone : (rows : List CommandRow) → any_gives rows exec c ≡ true → stale_of rows None exec c ≡ false → ⊥
      gone rows given out = false≢true (sym out ∙ ap (λ b. b && true) given)

      by_stay : (p : ℕ) (pair : List ℕ × Node) (node_is : slice_get buffer.nodes p ≡ Some pair) (pair0 : List ℕ × Node) (e0 : Entry) (s0 : StandsAt im.nodes pair0 e0)
          → e0.command ≡ c → has_execution im pair0 e0 exec ≡ true → (rows : List CommandRow) → any_gives rows exec c ≡ true → pair.0 ≡ pair0.0
          → (b : Bool) → (are p pair node_is).0.stays ≡ b → (if b then false else is_stale rows (executions_of (told_rows (are p pair node_is).0.rows)) exec c) ≡ false → abbrev_site
      by_stay p pair node_is pair0 e0 s0 cmd has0 rows given name true stays out =
          let m = (are p pair node_is).2 in
          let q = m.stays stays in
          let one : pair ≡ pair0 = one_of (slice_get im.nodes q.0) pair pair0 q.1
          (ap (slice_get im.nodes) (one_of (place_of im.nodes pair0.0) q.0 s0.node (ap (place_of im.nodes) (sym name) ∙ place_named im.nodes q.0 pair kept.sorted q.1) (place_named im.nodes s0.node pair0 kept.sorted s0.node_is)) ∙ s0.node_is) in
          let entry : slice_get pair.1.entries s0.at ≡ Some e0 = ap (λ (x : List ℕ × Node). slice_get x.1.entries s0.at) one ∙ s0.entry_is in
          let s : StandsAt buffer.nodes pair e0 = record { node = p; at = s0.at; node_is = node_is; entry_is = entry } in
          let has_it : has_execution new pair e0 exec ≡ true
          = ap (λ (rs : List Told). has (executions_of rs e0.command) exec) (rows_made known im kept listed buffer made sorted differ same are pair e0 s ∙ sym (m.same stays) ∙ ap (rows_of im) name) ∙ has0 in
          (pair, e0, s, has_it, cmd)
      by_stay p pair node_is pair0 e0 s0 cmd has0 rows given name false stays out =
          let own : has (executions_of (told_rows (are p pair node_is).0.rows) c) exec ≡ true = kept_by _ (ap (λ b. b && not (has (executions_of (told_rows (are p pair node_is).0.rows) c) exec)) (sym given) ∙ out) in
          let by : has (executions_of (node_rows im listed pair).1 c) exec ≡ true = ap (λ (rs : List Told). has (executions_of rs c) exec) (sym (are p pair node_is).2.rows) ∙ own in
          let row = row_there pair.1.entries _ c exec by in
          let s : StandsAt buffer.nodes pair row.1 = record { node = p; at = row.0; node_is = node_is; entry_is = row.2 } in
          (pair, row.1, s, ap (λ (rs : List Told). has (executions_of rs row.1.command) exec) (rows_made known im kept listed buffer made sorted differ same are pair row.1 s) ∙ ap (λ d. has (executions_of (told_rows (are p pair node_is).0.rows) d) exec) row.3 ∙ own, row.3)
        where
          kept_by : (b : Bool) → not b ≡ false → b ≡ true
          kept_by true is = refl
          kept_by false is = absurd (cc)

      by_place : (o : Option ℕ) → place_of buffer.nodes (kept.places.only exec c place at).0.0 ≡ o → (pair0 : List ℕ × Node) (e0 : Entry) (s0 : StandsAt im.nodes pair0 e0)
          → e0.command ≡ c → has_execution im pair0 e0 exec ≡ true → (rows : List CommandRow) → stale_of rows (for pair0.0) exec c ≡ false → any_gives rows exec c ≡ true → abbrev_site
      by_place o is pair0 e0 s0 cmd has0 rows out given = go (place_of buffer.nodes pair0.0) refl
        where
          go : (p : Option ℕ) → place_of buffer.nodes pair0.0 ≡ p → abbrev_site
          go None none = absurd (gone rows given (ap (λ x. stale_of rows (option_and_then (slice_get made) x) exec c) (sym none) ∙ out))
          go (Some p) found =
              let f = place_found buffer.nodes pair0.0 p found in
              let m = are p f.pair f.stands in
              let own : stale_of rows (Some m.0) exec c ≡ false
              = ap (λ x. stale_of rows x exec c) (sym (ap for (sym f.named) ∙ for_named known im kept listed buffer made sorted differ same are p f.pair f.stands)) ∙ out in
              by_stay p f.pair f.stands pair0 e0 s0 cmd has0 rows given f.named m.0.stays refl own

  module _ (after : PlaceTable) (so : (exec c : ℕ) → after exec c
      ≡ option_or (if stale_in for known.nodes known.rows exec c then None else old exec c) (fresh_all buffer.nodes made exec c)) where
    -- so what was left and added is what the new version has
    pub comes_out_renewed : AreRenewed old after new
    comes_out_renewed = record { there = there; only = only }
      where
        there : (pair : List ℕ × Node) (e : Entry) (exec : ℕ) → StandsAt buffer.nodes pair e → has_execution new pair e exec ≡ true
            → after exec e.command ≡ Some (or_unreported (old exec e.command) (source pair.1.text e.range))
        there pair e exec s is = so exec e.command ∙ go (old exec e.command) refl
          where
            go : (o : Option Place) → old exec e.command ≡ o
                → option_or (if stale_in for known.nodes known.rows exec e.command then None else old exec e.command) (fresh_all buffer.nodes made exec e.command)
                ≡ Some (or_unreported (old exec e.command) (source pair.1.text e.range))
            go (Some p) at =
                ap (λ b. option_or (if b then None else old exec e.command) (fresh_all buffer.nodes made exec e.command)) (not_stale known im kept listed buffer made sorted differ same are pair e exec s is p at)
                ∙ ap (λ o. option_or o (fresh_all buffer.nodes made exec e.command)) at
                ∙ sym (ap (λ o. Some (or_unreported o (source pair.1.text e.range))) at)
            go None none =
                ap (λ o. option_or (if stale_in for known.nodes known.rows exec e.command then None else o) (fresh_all buffer.nodes made exec e.command)) none
                ∙ nothing (stale_in for known.nodes known.rows exec e.command) ∙ comes_in known im kept listed buffer made sorted differ same are pair e exec s is none
                ∙ sym (ap (λ o. Some (or_unreported o (source pair.1.text e.range))) none)
              where
                nothing : (b : Bool) → option_or (if b then None else None) (fresh_all buffer.nodes made exec e.command) ≡ fresh_all buffer.nodes made exec e.command
                nothing true = refl
                nothing false = refl

        only : (exec command : ℕ) (place : Place) → after exec command ≡ Some place
            → (pair : List ℕ × Node) × (e : Entry) × StandsAt buffer.nodes pair e × (has_execution new pair e exec ≡ true) × (e.command ≡ command)
        only exec command place at = go (stale_in for known.nodes known.rows exec command) refl (old exec command) refl (sym (so exec command) ∙ at)
          where
            come : fresh_all buffer.nodes made exec command ≡ Some place
                → (pair : List ℕ × Node) × (e : Entry) × StandsAt buffer.nodes pair e × (has_execution new pair e exec ≡ true) × (e.command ≡ command)
            come is = let one = fresh_one known im kept listed buffer made sorted differ same are exec command place is in (one.0, one.1, one.2, one.3, one.4)

            go : (b : Bool) → stale_in for known.nodes known.rows exec command ≡ b → (o : Option Place) → old exec command ≡ o
                → option_or (if b then None else o) (fresh_all buffer.nodes made exec command) ≡ Some place
                → (pair : List ℕ × Node) × (e : Entry) × StandsAt buffer.nodes pair e × (has_execution new pair e exec ≡ true) × (e.command ≡ command)
            go true stale o is found = come found
            go false kept_on None is found = come found
            go false kept_on (Some p) is found = still_has exec command p kept_on is
