-- An evaluation is visible where it stands beside a command that is.
use Rattle.std.proofs.Common.{◌≡◌, ℕ, Bool, true, List, [], zip, Option, Some, ap, sym, ◌∙◌}
use Rattle.std.proofs.lemmas.Bool.{eqb-true, eq-eqb, and_parts, and_from}
use Rattle.std.specs.Prelude.{◌==◌, ◌&&◌, slice_get}
use Rattle.std.specs.Option.{option_map_or, option_and_then}
use Rattle.shared_map.specs.Pairs.{IsSorted}
use Rattle.doc_nodes.specs.declared.node.Entry.{Entry}
use Rattle.doc_nodes.specs.declared.node.Node.{Node}
use Rattle.doc_nodes.specs.Names.{in_order}
use Rattle.doc_nodes.specs.Imports.{place_of}
use Rattle.doc_nodes.proofs.KnownPlaces.{place_named}
use Rattle.exec_rules.specs.declared.row.Row.{Row}
use Rattle.exec_rules.specs.declared.row.Assigned.{Assigned}
use Rattle.exec_rules.specs.declared.version.Version.{Version}
use Rattle.exec_rules.specs.Assigning.{entries_at, entries_in, rows_in}
use Rattle.core_rules.specs.Assigned.{assigned_commands, is_visible}
use Rattle.update_plans.proofs.Members.{In, any_in, in_any, in_flat, flat_in, in_zip, zip_in}
use Rattle.update_plans.proofs.Named.{RowsOf, rows_of}

-- a visible command with its evaluation
pub record SeenAt (v : Version) (e : ℕ) : Type 0 where
  pub name : List ℕ
  pub place : ℕ
  pub entry : Entry
  pub row : Row
  pub entry_at : slice_get (entries_in v name) place ≡ Some entry
  pub row_at : slice_get (rows_in v name) place ≡ Some row
  pub is : row.evaluation ≡ e
  pub visible : entry.visible ≡ true

abbrev pub test : ℕ → Entry × Row → Bool
test e pair = (pair.1.evaluation == e) && pair.0.visible

abbrev pub commands : (List ℕ × Node) × Assigned → List (Entry × Row)
commands pair = zip pair.0.1.entries pair.1.rows

pub seen_at : (v : Version) (e : ℕ) → IsSorted in_order v.nodes → is_visible v e ≡ true → SeenAt v e
seen_at v e sorted is = record {
  name = name;
  place = here.0;
  entry = found.0.0;
  row = found.0.1;
  entry_at = ap (λ (es : List Entry). slice_get es here.0) entries ∙ here.1;
  row_at = ap (λ (rs : List Row). slice_get rs here.0) rows ∙ here.2;
  is = eqb-true found.0.1.evaluation e parts.0;
  visible = parts.1;
}
  where
    found : (x : Entry × Row) × In x (assigned_commands v) × (test e x ≡ true)
    found = any_in (test e) (assigned_commands v) is

    node : (y : (List ℕ × Node) × Assigned) × In y (zip v.nodes v.assigned) × In found.0 (commands y)
    node = in_flat commands (zip v.nodes v.assigned) found.0 found.1

    at : (p : ℕ) × (slice_get v.nodes p ≡ Some node.0.0) × (slice_get v.assigned p ≡ Some node.0.1)
    at = in_zip v.nodes v.assigned node.0 node.1

    here : (i : ℕ) × (slice_get node.0.0.1.entries i ≡ Some found.0.0) × (slice_get node.0.1.rows i ≡ Some found.0.1)
    here = in_zip node.0.0.1.entries node.0.1.rows found.0 node.2

    name : List ℕ
    name = node.0.0.0

    placed : place_of v.nodes name ≡ Some at.0
    placed = place_named v.nodes at.0 node.0.0 sorted at.1

    entries : entries_in v name ≡ node.0.0.1.entries
    entries = ap (λ o. option_map_or (entries_at v.nodes) o []) placed
        ∙ ap (λ (o : Option (List ℕ × Node)). option_map_or (λ x. x.1.entries) o []) at.1

    rows : rows_in v name ≡ node.0.1.rows
    rows = ap (λ o. option_map_or (λ (a : Assigned). a.rows) (option_and_then (slice_get v.assigned) o) []) placed
        ∙ ap (λ o. option_map_or (λ (a : Assigned). a.rows) o []) at.2

    parts : ((found.0.1.evaluation == e) ≡ true) × (found.0.0.visible ≡ true)
    parts = and_parts (found.0.1.evaluation == e) found.0.0.visible found.2

pub at_seen : (v : Version) (e : ℕ) → SeenAt v e → is_visible v e ≡ true
at_seen v e s =
    let r : RowsOf v s.name = rows_of v s.name s.place s.row s.row_at in
    let row = ap (λ (rs : List Row). slice_get rs s.place) (sym r.rows_are) ∙ s.row_at in
    let entry = ap (λ (es : List Entry). slice_get es s.place) (sym r.entries_are) ∙ s.entry_at in
    in_any (test e) (assigned_commands v) (s.entry, s.row)
    (flat_in commands (zip v.nodes v.assigned) (r.node.pair, r.assigned) (s.entry, s.row)
    (zip_in v.nodes v.assigned r.place r.node.pair r.assigned r.node.stands r.at)
    (zip_in r.node.pair.1.entries r.assigned.rows s.place s.entry s.row entry row))
    (and_from (s.row.evaluation == e) s.entry.visible (eq-eqb s.row.evaluation e s.is) s.visible)
