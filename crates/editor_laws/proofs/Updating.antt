-- A new version as the editor has it, once its assignment is told.
use Rattle.std.proofs.Common.{filter, ◌≡◌, ◌⊎◌, inl, inr, ℕ, ◌<◌, ◌≤◌, Bool, true, false, List, ◌∷◌, length, map, Option, Some, None, refl, ap, sym, subst, ◌∙◌, arith}
use Rattle.std.proofs.lemmas.Bool.{eqb-true, and_parts, cases_lt}
use Rattle.std.specs.Prelude.{slice_get, find, ◌==◌, if◌then◌else◌}
use Rattle.std.specs.Option.{option_map, option_map_or}
use Rattle.std.specs.List.{list_any, range_with_len}
use Rattle.std.proofs.lemmas.List.{length-map}
use Rattle.std.proofs.lemmas.List.FromFn.{length-range_with_len}
use Rattle.text_words.specs.Members.{has}
use Rattle.pide_base.specs.declared.part.Part.{Part}
use Rattle.shared_map.specs.Pairs.{IsSorted}
use Rattle.doc_nodes.specs.declared.node.Entry.{Entry}
use Rattle.doc_nodes.specs.declared.node.Node.{Node}
use Rattle.doc_nodes.specs.Names.{in_order}
use Rattle.exec_rules.specs.declared.home.Home.{Home}
use Rattle.exec_rules.specs.declared.row.Row.{Row}
use Rattle.exec_rules.specs.declared.version.Version.{Version}
use Rattle.exec_rules.specs.Assigning.{entries_in, rows_in}
use Rattle.exec_rules.specs.Listed.{Told, executions, told_commands_in, is_other}
use Rattle.buffer_rules.specs.Preparing.{Buffer}
use Rattle.language.specs.Lang.{Lang}
use Rattle.reply_messages.specs.declared.told.NodeRows.{NodeRows}
use Rattle.core_rules.specs.declared.event.Event.{Event}
use Rattle.core_rules.specs.declared.event.Event.TheVariants as event
use Rattle.core_rules.specs.Numbered.{grown}
use Rattle.core_rules.specs.Assigned.{command_ids}
use Rattle.core_rules.specs.Parts.{same_part, reports_of}
use Rattle.core_rules.specs.Standing.{is_finished}
use Rattle.core_rules.specs.Doc.{Doc, assignment_of, assigned_version}
use Rattle.core_rules.specs.Updates.{AllDiffer}
use Rattle.core_rules.proofs.KnownCommands.{ids, differ_at}
use Rattle.core_rules.proofs.KnownNumbers.{length_grown}
use Rattle.core_rules.proofs.KnownParts.{part_is}
use Rattle.session_rules.specs.Replies.{rows_told}
use Rattle.session_rules.specs.Keeping.{KeepsFront}
use Rattle.mirror_rules.specs.Images.{FinishedPart, Image}
use Rattle.mirror_rules.specs.Parts.{is_at, reports_at}
use Rattle.mirror_rules.specs.Rows.{executions_of, rows_by, rows_of, node_rows}
use Rattle.mirror_rules.specs.Updates.{image_after, stands}
use Rattle.editor_laws.proofs.Known.{AreFilled, ImageOf, SameTold, same_none, entries_named, reported, reported_on, rows_named}
use Rattle.editor_laws.proofs.KeptSpots.{KeptLaw, KeptSpot, kept_spot}
use Rattle.editor_laws.proofs.Listed.{named, not_listed, listed_none, listed_some}
use Rattle.text_words.proofs.KnownFinds.{any_at, find_kept, map_get}
use Rattle.editor_laws.proofs.Lists.{find_gone, map_same}
use Rattle.editor_laws.proofs.Rows.{row_list, told_by}
use Rattle.editor_laws.proofs.Spots.{Spot, spot, told_at}

-- what was not reported is not kept
gone : (fs : List FinishedPart) (kept : FinishedPart → Bool) (c : ℕ) (p : Part) → option_map (λ (f : FinishedPart). f.reports) (find (is_at c p) fs) ≡ None
    → option_map (λ (f : FinishedPart). f.reports) (find (is_at c p) (filter kept fs)) ≡ None
gone fs kept c p none = ap (option_map (λ (f : FinishedPart). f.reports)) (find_gone (is_at c p) kept fs (by (find (is_at c p) fs) none))
  where
    by : (o : Option FinishedPart) → option_map (λ (f : FinishedPart). f.reports) o ≡ None → o ≡ None
    by None e = refl
    by (Some f) e = absurd (cc)

module _ {S : Type 0} (l : Lang S) (law : KeptLaw) (h : List Event) (d : Doc) (id : ℕ) (b : Buffer) (im : Image) (is : ImageOf l h d.homes d.tip im)
    (sorted : IsSorted in_order b.nodes) (differ : AllDiffer (command_ids b.nodes)) (filled : AreFilled b.nodes)
    (free : (p : Part) → length d.homes < p.exec → is_finished h p ≡ false)
    (keeps : (p : ℕ) (pair : List ℕ × Node) → slice_get b.nodes p ≡ Some pair
    → KeepsFront d (assigned_version b.nodes b.document.blobs (assignment_of d b.nodes
    b.document.blobs)) p pair)
    (made : (name : List ℕ) (i : ℕ) (row : Row) (x : ℕ)
    → slice_get (rows_in (assigned_version b.nodes b.document.blobs (assignment_of d b.nodes
    b.document.blobs)) name) i ≡ Some row
    → has (executions row) x ≡ true → x ≤ length (grown d.homes (assignment_of d b.nodes b.document.blobs).homes)) where
  abbrev new : Version
  new = assigned_version b.nodes b.document.blobs (assignment_of d b.nodes b.document.blobs)

  abbrev homes : List Home
  homes = grown d.homes (assignment_of d b.nodes b.document.blobs).homes

  abbrev after : List Event
  after = event.Update id b.nodes b.document.blobs ∷ h

  abbrev listed : List NodeRows
  listed = rows_told d.tip new

  abbrev pub image : Image
  image = image_after im listed b

  own_rows : (q : ℕ) (pair : List ℕ × Node) → slice_get b.nodes q ≡ Some pair → rows_by pair.1.entries (told_commands_in new pair.0) ≡ told_commands_in new pair.0
  own_rows q pair at =
      let same = entries_named new q pair sorted at in
      subst (λ es. rows_by es (told_commands_in new pair.0) ≡ told_commands_in new pair.0) same
      (told_by (entries_in new pair.0) (rows_in new pair.0) (subst (λ es. AllDiffer (ids es)) (sym same) (differ_at b.nodes q pair differ at)))

  rows_at : (q : ℕ) (pair : List ℕ × Node) → slice_get b.nodes q ≡ Some pair → node_rows im listed pair ≡ (pair.0, told_commands_in new pair.0)
  rows_at q pair at = go (is_other d.tip (named d.tip new pair pair)) refl
    where
      go : (c : Bool) → is_other d.tip (named d.tip new pair pair) ≡ c → node_rows im listed pair ≡ (pair.0, told_commands_in new pair.0)
      go true changed =
          ap (λ o. (pair.0, rows_by pair.1.entries (option_map_or (λ (rows : List Told). rows) o (rows_of im pair.0)))) (listed_some d.tip new pair q at changed)
          ∙ ap (λ rows. (pair.0, rows)) (own_rows q pair at)
      go false kept =
          ap (λ o. (pair.0, rows_by pair.1.entries (option_map_or (λ (rows : List Told). rows) o (rows_of im pair.0)))) (listed_none d.tip new pair kept)
          ∙ ap (λ rows. (pair.0, rows_by pair.1.entries rows))
          (rows_named d.tip im pair.0 is.rows ∙ sym
          (not_listed d.tip pair.0 (told_commands_in new pair.0) kept))
          ∙ ap (λ rows. (pair.0, rows)) (own_rows q pair at)

  rows_are : image.rows ≡ map (λ (pair : List ℕ × Node). (pair.0, told_commands_in new pair.0))
      b.nodes
  rows_are = map_same (node_rows im listed)
      (λ (pair : List ℕ × Node). (pair.0, told_commands_in new pair.0)) b.nodes rows_at

  stays_at : (name : List ℕ) (i : ℕ) (e : Entry) (row : Row) (p : Part) → Spot new name i e row → slice_get (rows_in new name) i ≡ Some row
      → has (executions row) p.exec ≡ true → (f : FinishedPart) → is_at e.command p f ≡ true → stands image.rows f ≡ true
  stays_at name i e row p s at among f is_it =
      let parts = and_parts (f.command == e.command) (same_part f.part p) is_it in
      let command = eqb-true f.command e.command parts.0 in
      let part = part_is f.part p parts.1 in
      ap (λ rows. list_any (λ (node : List ℕ × List Told). has (executions_of node.1 f.command) f.part.exec) rows) rows_are
      ∙ any_at (λ (node : List ℕ × List Told). has (executions_of node.1 f.command) f.part.exec)
      (map (λ (pair : List ℕ × Node). (pair.0, told_commands_in new pair.0)) b.nodes) s.p (s.pair.0, told_commands_in new s.pair.0)
      (map_get (λ (pair : List ℕ × Node). (pair.0, told_commands_in new pair.0)) b.nodes s.p
      s.pair s.stands)
      (ap (λ c. has (executions_of (told_commands_in new s.pair.0) c) f.part.exec) command
      ∙ ap (λ (x : Part). has (executions_of (told_commands_in new s.pair.0) e.command) x.exec)
      part
      ∙ ap (λ n. has (executions_of (told_commands_in new n) e.command) p.exec) s.named
      ∙ ap (λ es. has es p.exec) (told_at new sorted differ name s.p i s.pair e s.stands s.named s.entry ∙ ap row_list at) ∙ among)

  known_after : (name : List ℕ) (i : ℕ) (e : Entry) (row : Row) (p : Part) → slice_get (entries_in new name) i ≡ Some e
      → slice_get (rows_in new name) i ≡ Some row → has (executions row) p.exec ≡ true → SameTold (reports_at image e.command p) (reported l after homes p)
  known_after name i e row p here at among = go (cases_lt (length d.homes) p.exec)
    where
      s : Spot new name i e row
      s = spot new sorted name i e row here at

      go : (length d.homes < p.exec) ⊎ (p.exec ≤ length d.homes) → SameTold (reports_at image e.command p) (reported l after homes p)
      go (inl late) = same_none (reports_at image e.command p) (reported l after homes p)
          (gone im.finished (stands image.rows) e.command p (is.unmade e.command p late)) (ap (λ b. if b then reports_of l homes p else None) (free p late))
      go (inr le) =
          let k : KeptSpot d name i e p.exec = kept_spot law d new keeps name i e row p.exec s among le in
          let same : reports_at image e.command p ≡ reports_at im k.old.command p =
          ap (λ o. option_map (λ (f : FinishedPart). f.reports) o)
          (find_kept (is_at e.command p) (stands image.rows) im.finished (stays_at name i e row p s at among))
          ∙ ap (λ c. reports_at im c p) k.command in
          subst (λ o. SameTold o (reported l after homes p)) (sym same)
          (subst (SameTold (reports_at im k.old.command p)) (sym (reported_on l h after d.homes (assignment_of d b.nodes b.document.blobs).homes p refl le))
          (is.known name i k.old k.before p k.stood k.had k.has_it))

  unmade_after : (c : ℕ) (p : Part) → length homes < p.exec → reports_at image c p ≡ None
  unmade_after c p late =
      let long = length_grown d.homes (assignment_of d b.nodes b.document.blobs).homes in
      gone im.finished (stands image.rows) c p (is.unmade c p (omega (arith, late, long)))

  -- the new version is as the editor has it
  pub updated_image : ImageOf l after homes new image
  updated_image = record {
    nodes = refl;
    rows = rows_are;
    long = length-map (range_with_len 0 (length b.nodes)) _ ∙ length-range_with_len 0 (length b.nodes);
    sorted = sorted;
    differ = differ;
    filled = filled;
    known = known_after;
    unmade = unmade_after;
    made = made;
  }
