-- Where executions stand, by the names of nodes.
use Rattle.std.proofs.Common.{◌≡◌, inl, inr, ℕ, true, false, List, [], length, Option, Some, None, refl, ap, sym, ◌∙◌}
use Rattle.std.proofs.lemmas.Bool.{or_left, or_right, eq-eqb}
use Rattle.std.specs.Prelude.{◌==◌, slice_get}
use Rattle.std.specs.Option.{option_map_or, option_and_then}
use Rattle.text_words.specs.Members.{has}
use Rattle.shared_map.specs.Pairs.{IsSorted}
use Rattle.doc_nodes.specs.declared.node.Node.{Node}
use Rattle.doc_nodes.specs.Names.{in_order}
use Rattle.doc_nodes.specs.Imports.{place_of}
use Rattle.doc_nodes.proofs.KnownPlaces.{place_named}
use Rattle.exec_rules.specs.declared.row.Row.{Row}
use Rattle.exec_rules.specs.declared.row.Assigned.{Assigned}
use Rattle.exec_rules.specs.declared.version.Version.{Version}
use Rattle.exec_rules.specs.Keys.{nothing_assigned}
use Rattle.exec_rules.specs.Assigning.{rows_in}
use Rattle.exec_rules.specs.Listed.{executions, print_list}
use Rattle.core_rules.specs.Assigned.{assigns}
use Rattle.language.specs.Lang.{Lang}
use Rattle.core_rules.specs.Doc.{Doc}
use Rattle.core_rules.specs.FromScratch.{assigned_to, AllFromScratch}
use Rattle.core_rules.specs.Placed.{RowOf}
use Rattle.core_rules.proofs.KnownPlaces.{place_found, rows_found}
use Rattle.core_rules.proofs.AssignedRows.{IsIn, RowAt, assigned_at_row, node_in}
use Rattle.core_rules.proofs.PlacedOnce.{stands_once}

in_executions : (row : Row) (e : ℕ) → IsIn row e → has (executions row) e ≡ true
in_executions row e (inl same) = or_left (e == row.evaluation) _ (eq-eqb e row.evaluation same)
in_executions row e (inr printed) = or_right (e == row.evaluation) (has (print_list row.print) e)
    (ap (λ o. has (print_list o) e) printed ∙ or_left (e == e) false (eq-eqb e e refl))

-- an execution stands in a row of the node of a name
pub found_row : (v : Version) (e : ℕ) → IsSorted in_order v.nodes → length v.assigned ≡ length v.nodes → assigns v e ≡ true → RowOf v e
found_row v e sorted long is = record {
  name = r.pair.0;
  place = r.index;
  row = r.row;
  stands = ap (λ rows. slice_get rows r.index) (rows_found v r.pair.0 r.place (place_named v.nodes r.place r.pair sorted r.node)) ∙ r.at;
  has_it = in_executions r.row e r.is;
}
  where
    r : RowAt v (λ row. IsIn row e)
    r = assigned_at_row v e long is

-- where the rows of a name stand
pub record RowPlace (v : Version) (name : List ℕ) (i : ℕ) (row : Row) : Type 0 where
  pub place : ℕ
  pub placed : place_of v.nodes name ≡ Some place
  pub at : slice_get (assigned_to v place).rows i ≡ Some row

pub row_place : (v : Version) (name : List ℕ) (i : ℕ) (row : Row) → slice_get (rows_in v name) i ≡ Some row → RowPlace v name i row
row_place v name i row at = go (place_of v.nodes name) refl at
  where
    go : (o : Option ℕ) → place_of v.nodes name ≡ o
        → slice_get (option_map_or (λ (a : Assigned). a.rows) (option_and_then (slice_get v.assigned) o) []) i ≡ Some row
        → RowPlace v name i row
    go None is at = absurd (cc)
    go (Some q) is at = record {
      place = q;
      placed = is;
      at = ap (λ rows. slice_get rows i) (same (slice_get v.assigned q)) ∙ at;
    }
      where
        same : (o : Option Assigned) → (option_map_or (λ (a : Assigned). a) o nothing_assigned).rows ≡ option_map_or (λ (a : Assigned). a.rows) o []
        same None = refl
        same (Some a) = refl

-- what stands in a row of a name is assigned
pub there_row : (v : Version) (name : List ℕ) (i e : ℕ) (row : Row) → slice_get (rows_in v name) i ≡ Some row
    → has (executions row) e ≡ true → assigns v e ≡ true
there_row v name i e row at is =
    let r = row_place v name i row at in node_in v.assigned r.place i row e r.at is

module _ {S : Type 0} (l : Lang S) (d : Doc) (v : Version) (sorted : IsSorted in_order v.nodes) (all : AllFromScratch l d v) where
  -- an execution stands once
  pub named_once : (name other : List ℕ) (i j e : ℕ) (r s : Row) → slice_get (rows_in v name) i ≡ Some r
      → slice_get (rows_in v other) j ≡ Some s → has (executions r) e ≡ true → has (executions s) e ≡ true
      → (name ≡ other) × (i ≡ j)
  named_once name other i j e r s at on here there =
      let a = row_place v name i r at in
      let b = row_place v other j s on in
      let x = place_found v.nodes name a.place a.placed in
      let y = place_found v.nodes other b.place b.placed in
      let same = stands_once l d v sorted all a.place b.place i j e x.pair y.pair r s x.stands y.stands a.at b.at here there in
      let pairs : x.pair ≡ y.pair = one_pair (slice_get v.nodes b.place) x.pair y.pair
      (ap (slice_get v.nodes) (sym same.0) ∙ x.stands) y.stands in
      (sym x.named ∙ ap (λ (z : List ℕ × Node). z.0) pairs ∙ y.named, same.1)
    where
      one_pair : (o : Option (List ℕ × Node)) (m n : List ℕ × Node) → o ≡ Some m → o ≡ Some n → m ≡ n
      one_pair o m n p q = cc
