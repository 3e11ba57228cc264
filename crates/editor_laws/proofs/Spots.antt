-- Where a command with a row stands in a version, and what is found there.
use Rattle.std.proofs.Common.{◌≡◌, ℕ, true, List, Some, ap, sym, subst, ◌∙◌}
use Rattle.std.specs.Prelude.{slice_get}
use Rattle.text_words.specs.Members.{has}
use Rattle.doc_nodes.specs.declared.node.Entry.{Entry}
use Rattle.doc_nodes.specs.declared.node.Node.{Node}
use Rattle.doc_nodes.specs.Names.{in_order}
use Rattle.shared_map.specs.Pairs.{IsSorted}
use Rattle.core_rules.specs.Assigned.{command_ids}
use Rattle.exec_rules.specs.declared.row.Row.{Row}
use Rattle.exec_rules.specs.declared.version.Version.{Version}
use Rattle.exec_rules.specs.Assigning.{entries_in, rows_in}
use Rattle.exec_rules.specs.Listed.{executions, told_commands_in}
use Rattle.language.specs.Lang.{Lang}
use Rattle.core_rules.specs.declared.event.Event.{Event}
use Rattle.exec_rules.specs.declared.home.Home.{Home}
use Rattle.core_rules.specs.FromScratch.{assigned_to}
use Rattle.core_rules.proofs.KnownCommands.{ids, differ_at}
use Rattle.core_rules.specs.Updates.{AllDiffer}
use Rattle.core_rules.proofs.KnownNamedRows.{row_place}
use Rattle.core_rules.proofs.KnownPlaces.{place_found}
use Rattle.mirror_rules.specs.Images.{Image}
use Rattle.mirror_rules.specs.Rows.{executions_of, rows_of}
use Rattle.editor_laws.proofs.Known.{ImageOf, entries_named, rows_named}
use Rattle.editor_laws.proofs.Rows.{row_list, told_row}

-- a command of a node, with its row
pub record Spot (v : Version) (name : List ℕ) (i : ℕ) (e : Entry) (row : Row) : Type 0 where
  pub p : ℕ
  pub pair : List ℕ × Node
  pub stands : slice_get v.nodes p ≡ Some pair
  pub named : pair.0 ≡ name
  pub entry : slice_get pair.1.entries i ≡ Some e
  pub at : slice_get (assigned_to v p).rows i ≡ Some row

pub spot : (v : Version) → IsSorted in_order v.nodes → (name : List ℕ) (i : ℕ) (e : Entry) (row : Row)
    → slice_get (entries_in v name) i ≡ Some e → slice_get (rows_in v name) i ≡ Some row → Spot v name i e row
spot v sorted name i e row here at =
    let r = row_place v name i row at in
    let f = place_found v.nodes name r.place r.placed in
    record {
      p = r.place;
      pair = f.pair;
      stands = f.stands;
      named = f.named;
      entry = ap (λ es. slice_get es i) (sym (entries_named v r.place f.pair sorted f.stands) ∙ ap (entries_in v) f.named) ∙ here;
      at = r.at;
    }

-- what is told of a command, by its row
pub told_at : (v : Version) → IsSorted in_order v.nodes → AllDiffer (command_ids v.nodes) → (name : List ℕ) (p i : ℕ)
    (pair : List ℕ × Node) (e : Entry) → slice_get v.nodes p ≡ Some pair → pair.0 ≡ name → slice_get pair.1.entries i ≡ Some e
    → executions_of (told_commands_in v name) e.command ≡ row_list (slice_get (rows_in v name) i)
told_at v sorted differ name p i pair e stands named entry =
    let same : entries_in v name ≡ pair.1.entries = ap (entries_in v) (sym named) ∙ entries_named v p pair sorted stands in
    told_row (entries_in v name) (rows_in v name) i e
    (subst (λ es. AllDiffer (ids es)) (sym same) (differ_at v.nodes p pair differ stands))
    (ap (λ es. slice_get es i) same ∙ entry)

module _ {S : Type 0} (l : Lang S) (h : List Event) (homes : List Home) (v : Version) (im : Image) (is : ImageOf l h homes v im) where
  -- the executions of a command, as the editor has them
  pub executions_at : (name : List ℕ) (p i : ℕ) (pair : List ℕ × Node) (e : Entry) → slice_get v.nodes p ≡ Some pair → pair.0 ≡ name
      → slice_get pair.1.entries i ≡ Some e
      → executions_of (rows_of im name) e.command ≡ row_list (slice_get (rows_in v name) i)
  executions_at name p i pair e stands named entry =
      ap (λ rows. executions_of rows e.command) (rows_named v im name is.rows)
      ∙ told_at v is.sorted is.differ name p i pair e stands named entry

  pub has_at : (name : List ℕ) (i : ℕ) (e : Entry) (row : Row) (x : ℕ) → (s : Spot v name i e row) → slice_get (rows_in v name) i ≡ Some row
      → has (executions row) x ≡ true → has (executions_of (rows_of im s.pair.0) e.command) x ≡ true
  has_at name i e row x s at among =
      ap (λ n. has (executions_of (rows_of im n) e.command) x) s.named
      ∙ ap (λ es. has es x) (executions_at name s.p i s.pair e s.stands s.named s.entry ∙ ap row_list at) ∙ among
