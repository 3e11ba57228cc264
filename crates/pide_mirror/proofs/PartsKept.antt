-- The parts that are kept of a node's commands are the image's.
use Rattle.std.proofs.Common.{◌≡◌, ℕ, zero, suc, true, false, cond, List, [], ◌∷◌, ◌++◌, map, Option, Some, refl, ap, sym, ◌∙◌}
use Rattle.std.specs.Prelude.{find, slice_get, ◌==◌}
use Rattle.std.specs.Option.{option_map_or}
use Rattle.std.proofs.lemmas.Bool.{eq-eqb, or_parts}
use Rattle.text_words.specs.Members.{has}
use Rattle.text_words.proofs.KnownMembers.{has_itself, has_tail}
use Rattle.pide_base.specs.declared.part.PartKind.TheVariants.{Print}
use Rattle.doc_nodes.specs.declared.node.Entry.{Entry}
use Rattle.doc_nodes.specs.declared.node.Node.{Node}
use Rattle.doc_nodes.specs.Aliases.{aliases_at}
use Rattle.doc_nodes.specs.Needs.{AliasList}
use Rattle.buffer_rules.specs.Cuts.{source}
use Rattle.core_rules.specs.Updates.{AllDiffer}
use Rattle.core_rules.proofs.KnownCommands.{differ_at}
use Rattle.reply_messages.specs.declared.told.CommandRow.{CommandRow}
use Rattle.mirror_rules.specs.Forking.{may_fork}
use Rattle.mirror_rules.specs.Images.{Image}
use Rattle.mirror_rules.specs.Parts.{part_of, command_parts, parts_from, node_parts}
use Rattle.mirror_rules.specs.Rows.{executions_of, rows_of}
use Rattle.pide_mirror.specs.Kept.{IsKept, told_rows}
use Rattle.pide_mirror.specs.Places.{StandsAt, has_execution, PlaceTable, ArePlaced}
use Rattle.pide_mirror.specs.Tables.{table_of}
use Rattle.pide_mirror.specs.declared.known.Known.{Known}
use Rattle.pide_mirror.specs.declared.place.Place.{Place}
use Rattle.pide_mirror.specs.NodeParts.{part_kept, evaluation_kept, print_kept, command_kept, commands_kept, node_kept}

-- a number that is not among commands is not one of theirs
not_one : (es : List Entry) (j c : ℕ) (e : Entry) → has (map (λ e. e.command) es) c ≡ false → slice_get es j ≡ Some e → (c == e.command) ≡ false
not_one [] j c e out at = absurd (cc)
not_one (x ∷ es) zero c e out at =
    let one : x ≡ e = cc in
    ap (λ (y : Entry). c == y.command) (sym one) ∙ (or_parts (c == x.command) (has (map (λ y. y.command) es) c) out).0
not_one (x ∷ es) (suc j) c e out at = not_one es j c e (or_parts (c == x.command) (has (map (λ y. y.command) es) c) out).1 at

-- a command has the executions of the row at its place
row_own : (es : List Entry) (rows : List CommandRow) → map (λ r. r.0) (told_rows rows) ≡ map (λ e. e.command) es
    → AllDiffer (map (λ e. e.command) es) → (j : ℕ) (e : Entry) (row : CommandRow) → slice_get es j ≡ Some e → slice_get rows j ≡ Some row
    → executions_of (told_rows rows) e.command ≡ row.executions
row_own [] rows same differ j e row at there = absurd (cc)
row_own (x ∷ es) [] same differ j e row at there = absurd (cc)
row_own (x ∷ es) (r ∷ rows) same differ zero e row at there =
    let one : x ≡ e = cc in
    let other : r ≡ row = cc in
    let first : r.command ≡ x.command = cc in
    let mine : r.command ≡ e.command = first ∙ ap (λ (y : Entry). y.command) one in
    ap (λ b. option_map_or (λ (t : ℕ × List ℕ). t.1) (cond b (Some (r.command, r.executions)) (find (λ t. t.0 == e.command) (told_rows rows))) []) (eq-eqb r.command e.command mine)
    ∙ ap (λ (y : CommandRow). y.executions) other
row_own (x ∷ es) (r ∷ rows) same differ (suc j) e row at there =
    let first : r.command ≡ x.command = cc in
    let rest : map (λ (t : ℕ × List ℕ). t.0) (told_rows rows) ≡ map (λ (y : Entry). y.command) es = cc in
    let out : (r.command == e.command) ≡ false = ap (λ c. c == e.command) first ∙ not_one es j x.command e differ.0 at in
    ap (λ b. option_map_or (λ (t : ℕ × List ℕ). t.1) (cond b (Some (r.command, r.executions)) (find (λ t. t.0 == e.command) (told_rows rows))) []) out
    ∙ row_own es rows rest differ.1 j e row at there

module _ (table : PlaceTable) (image : Image) (placed : ArePlaced table image) (pair : List ℕ × Node) (e : Entry) (stands : StandsAt image.nodes pair e) where
  prints_same : (prints : List ℕ) → ((x : ℕ) → has prints x ≡ true → has_execution image pair e x ≡ true)
      → map (part_of image e Print) prints ≡ map (print_kept table e) prints
  prints_same [] own = refl
  prints_same (x ∷ prints) own =
      ap (λ (o : Option Place). part_kept e Print x o ∷ map (part_of image e Print) prints) (sym (placed.there pair e x stands (own x (has_itself prints x))))
      ∙ ap (λ ps. print_kept table e x ∷ ps) (prints_same prints (λ y is. own y (has_tail x y prints is)))

  command_same : (aliases : AliasList) (executions : List ℕ) → executions_of (rows_of image pair.0) e.command ≡ executions
      → command_parts image (may_fork aliases (source pair.1.text e.range)) e executions ≡ command_kept table aliases e executions
  command_same aliases [] is = refl
  command_same aliases (x ∷ prints) is =
      let own : (y : ℕ) → has (x ∷ prints) y ≡ true → has_execution image pair e y ≡ true = λ y there. ap (λ xs. has xs y) is ∙ there in
      ap (λ (o : Option Place). evaluation_kept aliases e x o ++ map (part_of image e Print) prints) (sym (placed.there pair e x stands (own x (has_itself prints x))))
      ∙ ap (λ ps. evaluation_kept aliases e x (table x e.command) ++ ps) (prints_same prints (λ y is. own y (has_tail x y prints is)))

module _ (table : PlaceTable) (image : Image) (placed : ArePlaced table image) (p : ℕ) (pair : List ℕ × Node) where
  -- so for the commands behind the header
  commands_same : (i : ℕ) (es : List Entry) (rows : List CommandRow) → map (λ r. r.0) (told_rows rows) ≡ map (λ e. e.command) es
      → ((j : ℕ) (e : Entry) (row : CommandRow) → slice_get es j ≡ Some e → slice_get rows j ≡ Some row
      → StandsAt image.nodes pair e × (executions_of (rows_of image pair.0) e.command ≡ row.executions))
      → parts_from image p pair (suc i) es ≡ commands_kept table (aliases_at image.nodes p).pairs es rows
  commands_same i [] rows same own = refl
  commands_same i (e ∷ es) [] same own = absurd (cc)
  commands_same i (e ∷ es) (row ∷ rows) same own =
      let here = own zero e row refl refl in
      let aliases = (aliases_at image.nodes p).pairs in
      let rest : map (λ (t : ℕ × List ℕ). t.0) (told_rows rows) ≡ map (λ (y : Entry). y.command) es = cc in
      ap (λ xs. command_parts image (may_fork aliases (source pair.1.text e.range)) e xs ++ parts_from image p pair (suc (suc i)) es) here.1
      ∙ ap (λ ps. ps ++ parts_from image p pair (suc (suc i)) es) (command_same table image placed pair e here.0 aliases row.executions here.1)
      ∙ ap (λ ps. command_kept table aliases e row.executions ++ ps) (commands_same (suc i) es rows rest (λ j d r at there. own (suc j) d r at there))

  -- and for the node
  entries_same : (es : List Entry) (rows : List CommandRow) → map (λ r. r.0) (told_rows rows) ≡ map (λ e. e.command) es
      → ((j : ℕ) (e : Entry) (row : CommandRow) → slice_get es j ≡ Some e → slice_get rows j ≡ Some row
      → StandsAt image.nodes pair e × (executions_of (rows_of image pair.0) e.command ≡ row.executions))
      → parts_from image p pair zero es ≡ node_kept table (aliases_at image.nodes p).pairs es rows
  entries_same [] rows same own = refl
  entries_same (e ∷ es) [] same own = absurd (cc)
  entries_same (e ∷ es) (row ∷ rows) same own =
      let here = own zero e row refl refl in
      let rest : map (λ (t : ℕ × List ℕ). t.0) (told_rows rows) ≡ map (λ (y : Entry). y.command) es = cc in
      ap (λ xs. command_parts image (may_fork [] (source pair.1.text e.range)) e xs ++ parts_from image p pair (suc zero) es) here.1
      ∙ ap (λ ps. ps ++ parts_from image p pair (suc zero) es) (command_same table image placed pair e here.0 [] row.executions here.1)
      ∙ ap (λ ps. command_kept table [] e row.executions ++ ps) (commands_same zero es rows rest (λ j d r at there. own (suc j) d r at there))

-- what is kept of the commands of a node is the image's
pub node_same : (known : Known) (image : Image) → IsKept known image → (p : ℕ) (pair : List ℕ × Node) (rows : List CommandRow)
    → slice_get image.nodes p ≡ Some pair → rows_of image pair.0 ≡ told_rows rows
    → node_kept (table_of known.places) (aliases_at image.nodes p).pairs pair.1.entries rows ≡ node_parts image p
node_same known image kept p pair rows at are =
    let aligned : map (λ (t : ℕ × List ℕ). t.0) (told_rows rows) ≡ map (λ (e : Entry). e.command) pair.1.entries
    = ap (map (λ (t : ℕ × List ℕ). t.0)) (sym are) ∙ kept.aligned p pair at in
    let differ = differ_at image.nodes p pair kept.differ at in
    let own = entries_same (table_of known.places) image kept.places p pair pair.1.entries rows aligned (λ j e row is there. (
      record { node = p; at = j; node_is = at; entry_is = is },
      ap (λ ts. executions_of ts e.command) are ∙ row_own pair.1.entries rows aligned differ j e row is there,
    )) in
    sym own ∙ sym (ap (λ o. option_map_or (λ (x : List ℕ × Node). parts_from image p x zero x.1.entries) o []) at)
