-- The commands that have an execution, through an update.
use Rattle.std.proofs.Common.{◌≡◌, ℕ, Bool, true, false, cond, List, [], ◌∷◌, filter, Option, Some, None, refl, ap, sym, ◌∙◌}
use Rattle.std.proofs.lemmas.Bool.{eqb-true, and_parts}
use Rattle.std.specs.Prelude.{◌==◌}
use Rattle.std.specs.Option.{option_map, option_map_or}
use Rattle.std.specs.List.{AllByRecursion}
use Rattle.text_words.specs.Members.{has}
use Rattle.shared_map.specs.Pairs.{IsSorted}
use Rattle.pide_base.specs.declared.part.Part.{Part}
use Rattle.pide_base.specs.declared.part.PartKind.{PartKind}
use Rattle.pide_base.specs.declared.part.PartKind.TheVariants.{Eval, Fork, Print}
use Rattle.doc_nodes.specs.declared.node.Entry.{Entry}
use Rattle.doc_nodes.specs.declared.node.Node.{Node}
use Rattle.doc_nodes.specs.Names.{in_order}
use Rattle.exec_rules.specs.Listed.{Told}
use Rattle.core_rules.specs.Parts.{same_part}
use Rattle.reply_messages.specs.declared.told.NodeRows.{NodeRows}
use Rattle.buffer_rules.specs.Cuts.{source}
use Rattle.buffer_rules.specs.Preparing.{Buffer}
use Rattle.mirror_rules.specs.Images.{FinishedPart, Image}
use Rattle.mirror_rules.specs.Parts.{is_at, reports_at}
use Rattle.mirror_rules.specs.Rows.{executions_of, rows_of, node_rows}
use Rattle.mirror_rules.specs.Updates.{stands, image_after}
use Rattle.pide_mirror.specs.Places.{StandsAt, has_execution, place_of, PlaceTable, ArePlaced, IsThere, AreThere, or_unreported, AreRenewed, HaveSources}
use Rattle.pide_mirror.specs.declared.place.Place.{Place}
use Rattle.text_words.proofs.KnownFinds.{any_at, any_from, find_kept, map_get}
use Rattle.pide_mirror.proofs.Placing.{same_place}
use Rattle.pide_mirror.proofs.NodesFound.{found_named, mapped_at, row_there, nothing_there}

module _ (tip : Image) (listed : List NodeRows) (buffer : Buffer) (sorted : IsSorted in_order buffer.nodes) where
  abbrev new : Image
  new = image_after tip listed buffer

  pub rows_there : (pair : List ℕ × Node) (e : Entry) → StandsAt buffer.nodes pair e → rows_of new pair.0 ≡ (node_rows tip listed pair).1
  rows_there pair e s = ap (λ o. option_map_or (λ (rows : List Told). rows) o []) (found_named (λ p. (node_rows tip listed p).1) buffer.nodes s.node pair sorted s.node_is)

  -- the reports of a part whose command has its execution still
  stays : (pair : List ℕ × Node) (e : Entry) (exec : ℕ) → StandsAt buffer.nodes pair e → has_execution new pair e exec ≡ true
      → (kind : PartKind) → reports_at new e.command (record { exec = exec; kind = kind }) ≡ reports_at tip e.command (record { exec = exec; kind = kind })
  stays pair e exec s is kind = ap (option_map (λ (f : FinishedPart). f.reports)) (find_kept (is_at e.command part) (stands new.rows) tip.finished passes)
    where
      part : Part
      part = record { exec = exec; kind = kind }

      passes : (f : FinishedPart) → is_at e.command part f ≡ true → stands new.rows f ≡ true
      passes f at =
          let both = and_parts (f.command == e.command) (same_part f.part part) at in
          let own = and_parts (f.part.exec == exec) _ both.1 in
          let here : has (executions_of (node_rows tip listed pair).1 f.command) f.part.exec ≡ true
          = ap (λ c. has (executions_of (node_rows tip listed pair).1 c) f.part.exec) (eqb-true f.command e.command both.0)
          ∙ ap (λ x. has (executions_of (node_rows tip listed pair).1 e.command) x) (eqb-true f.part.exec exec own.0)
          ∙ ap (λ rows. has (executions_of rows e.command) exec) (sym (rows_there pair e s)) ∙ is in
          any_at (λ node. has (executions_of node.1 f.command) f.part.exec) new.rows s.node (node_rows tip listed pair) (map_get (node_rows tip listed) buffer.nodes s.node pair s.node_is) here

  module _ (table after : PlaceTable) (placed : ArePlaced table tip) (all : AreThere table tip) (same : HaveSources tip.nodes buffer.nodes)
      (renewed : AreRenewed table after new) where
    place_there : (pair : List ℕ × Node) (e : Entry) (exec : ℕ) → StandsAt buffer.nodes pair e → has_execution new pair e exec ≡ true
        → or_unreported (table exec e.command) (source pair.1.text e.range) ≡ place_of new pair e exec
    place_there pair e exec s is = go (table exec e.command) refl
      where
        stay : (kind : PartKind) → reports_at tip e.command (record { exec = exec; kind = kind }) ≡ reports_at new e.command (record { exec = exec; kind = kind })
        stay kind = sym (stays pair e exec s is kind)

        gone : table exec e.command ≡ None → (kind : PartKind) → None ≡ reports_at new e.command (record { exec = exec; kind = kind })
        gone none kind = sym (nothing_there table tip all exec e.command none kind) ∙ stay kind

        go : (o : Option Place) → table exec e.command ≡ o → or_unreported o (source pair.1.text e.range) ≡ place_of new pair e exec
        go None none = same_place (source pair.1.text e.range) (gone none Eval) (gone none Fork) (gone none Print)
        go (Some p) at =
            let old = placed.only exec e.command p at in
            let pair0 = old.0 in
            let e0 = old.1 in
            let there : Some p ≡ Some (place_of tip pair0 e0 exec) = sym at ∙ ap (table exec) (sym old.4) ∙ placed.there pair0 e0 exec old.2 old.3 in
            let is_p : p ≡ place_of tip pair0 e0 exec = cc in
            is_p ∙ ap (λ c. record {
              source = source pair0.1.text e0.range;
              eval = reports_at tip c (record { exec = exec; kind = Eval });
              fork = reports_at tip c (record { exec = exec; kind = Fork });
              print = reports_at tip c (record { exec = exec; kind = Print });
            }) old.4
            ∙ ap (λ text. record {
              source = text;
              eval = reports_at tip e.command (record { exec = exec; kind = Eval });
              fork = reports_at tip e.command (record { exec = exec; kind = Fork });
              print = reports_at tip e.command (record { exec = exec; kind = Print });
            }) (sym (same pair pair0 e e0 s old.2 (sym old.4)).1)
            ∙ same_place (source pair.1.text e.range) (stay Eval) (stay Fork) (stay Print)

    -- what the tip's places become are the new version's
    pub places_renewed : ArePlaced after new
    places_renewed = record {
      there = λ pair e exec s is. renewed.there pair e exec s is ∙ ap (λ p. Some p) (place_there pair e exec s is);
      only = renewed.only;
    }

    still_there : (f : FinishedPart) → stands new.rows f ≡ true → IsThere after f
    still_there f is =
        let row = any_from (λ node. has (executions_of node.1 f.command) f.part.exec) new.rows is in
        let from = mapped_at (node_rows tip listed) buffer.nodes row.0 row.1 row.2 in
        let pair = from.0 in
        let here : has (executions_of (node_rows tip listed pair).1 f.command) f.part.exec ≡ true
        = ap (λ (node : List ℕ × List Told). has (executions_of node.1 f.command) f.part.exec) (sym from.2) ∙ row.3 in
        let e = row_there pair.1.entries _ f.command f.part.exec here in
        let s : StandsAt buffer.nodes pair e.1 = record { node = row.0; at = e.0; node_is = from.1; entry_is = e.2 } in
        let has_it : has_execution new pair e.1 f.part.exec ≡ true
        = ap (λ rows. has (executions_of rows e.1.command) f.part.exec) (rows_there pair e.1 s)
        ∙ ap (λ c. has (executions_of (node_rows tip listed pair).1 c) f.part.exec) e.3 ∙ here in
        (_, ap (after f.part.exec) (sym e.3) ∙ renewed.there pair e.1 f.part.exec s has_it)

    each_still : (fs : List FinishedPart) → AllByRecursion (IsThere after) (filter (stands new.rows) fs)
    each_still [] = tt
    each_still (f ∷ fs) = go (stands new.rows f) refl (each_still fs)
      where
        go : (b : Bool) → stands new.rows f ≡ b → AllByRecursion (IsThere after) (filter (stands new.rows) fs)
            → AllByRecursion (IsThere after) (cond b (f ∷ filter (stands new.rows) fs) (filter (stands new.rows) fs))
        go true is rest = (still_there f is, rest)
        go false is rest = rest

    -- and its reported parts are there
    pub there_renewed : AreThere after new
    there_renewed = each_still tip.finished
