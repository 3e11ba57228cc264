-- What stands at the names of nodes.
use Rattle.std.proofs.Common.{◌≡◌, ◌⊎◌, inl, inr, ℕ, true, false, List, [], ◌∷◌, get_or, Option, Some, None, refl, ap, sym, ◌∙◌}
use Rattle.std.proofs.lemmas.Bool.{eqb-true, eq-eqb, or_left, or_right, or_cases}
use Rattle.std.proofs.lemmas.List.Quantifiers.{position-Some}
use Rattle.std.proofs.lemmas.Option.{slice_get-get_or}
use Rattle.std.specs.Prelude.{◌==◌, slice_get}
use Rattle.std.specs.Option.{option_map_or, option_and_then}
use Rattle.text_words.specs.Members.{has}
use Rattle.doc_nodes.specs.declared.node.Node.{Node}
use Rattle.doc_nodes.specs.Names.{equal}
use Rattle.doc_nodes.specs.Imports.{NodeList, place_of}
use Rattle.doc_nodes.proofs.KnownNames.{name_is}
use Rattle.exec_rules.specs.declared.row.Row.{Row}
use Rattle.exec_rules.specs.declared.row.Assigned.{Assigned}
use Rattle.exec_rules.specs.declared.version.Version.{Version}
use Rattle.exec_rules.specs.Assigning.{entries_at, entries_in, rows_in}
use Rattle.exec_rules.specs.Listed.{executions, print_list}
use Rattle.exec_rules.proofs.KnownListed.{in_print}

-- the node of a name stands at its place
pub record NodeOf (nodes : NodeList) (name : List ℕ) (place : ℕ) : Type 0 where
  pub pair : List ℕ × Node
  pub stands : slice_get nodes place ≡ Some pair
  pub named : pair.0 ≡ name

pub node_of : (nodes : NodeList) (name : List ℕ) (q : ℕ) → place_of nodes name ≡ Some q → NodeOf nodes name q
node_of [] name q is = absurd (cc)
node_of (n ∷ ns) name q is =
    let h = position-Some (λ (pair : List ℕ × Node). equal pair.0 name) (n ∷ ns) q n is in
    record {
      pair = get_or (n ∷ ns) q n;
      stands = slice_get-get_or (n ∷ ns) q n h.0;
      named = name_is (get_or (n ∷ ns) q n).0 name h.1;
    }

-- where the rows of a name stand
pub record RowsOf (v : Version) (name : List ℕ) : Type 0 where
  pub place : ℕ
  pub node : NodeOf v.nodes name place
  pub assigned : Assigned
  pub at : slice_get v.assigned place ≡ Some assigned
  pub rows_are : rows_in v name ≡ assigned.rows
  pub entries_are : entries_in v name ≡ node.pair.1.entries

pub rows_of : (v : Version) (name : List ℕ) (i : ℕ) (row : Row) → slice_get (rows_in v name) i ≡ Some row → RowsOf v name
rows_of v name i row at = go (place_of v.nodes name) refl at
  where
    go : (o : Option ℕ) → place_of v.nodes name ≡ o
        → slice_get (option_map_or (λ (a : Assigned). a.rows) (option_and_then (slice_get v.assigned) o) []) i ≡ Some row
        → RowsOf v name
    go None is at = absurd (cc)
    go (Some q) is at = assigned (slice_get v.assigned q) refl at
      where
        node : NodeOf v.nodes name q
        node = node_of v.nodes name q is

        assigned : (o : Option Assigned) → slice_get v.assigned q ≡ o
            → slice_get (option_map_or (λ (a : Assigned). a.rows) o []) i ≡ Some row → RowsOf v name
        assigned None on at = absurd (cc)
        assigned (Some a) on at = record {
          place = q;
          node = node;
          assigned = a;
          at = on;
          rows_are = ap (λ o. option_map_or (λ (x : Assigned). x.rows) (option_and_then (slice_get v.assigned) o) []) is
              ∙ ap (λ o. option_map_or (λ (x : Assigned). x.rows) o []) on;
          entries_are = ap (λ o. option_map_or (entries_at v.nodes) o []) is
              ∙ ap (λ (o : Option (List ℕ × Node)). option_map_or (λ x. x.1.entries) o []) node.stands;
        }

-- the execution is one of the row's
abbrev pub IsOf : Row → ℕ → Type 0
IsOf row e = (row.evaluation ≡ e) ⊎ (row.print ≡ Some e)

pub in_row : (row : Row) (e : ℕ) → has (executions row) e ≡ true → IsOf row e
in_row row e is = go (or_cases (e == row.evaluation) (has (print_list row.print) e) is)
  where
    go : ((e == row.evaluation) ≡ true) ⊎ (has (print_list row.print) e ≡ true) → IsOf row e
    go (inl same) = inl (sym (eqb-true e row.evaluation same))
    go (inr there) = inr (in_print row.print e there)

pub of_row : (row : Row) (e : ℕ) → IsOf row e → has (executions row) e ≡ true
of_row row e (inl same) = or_left (e == row.evaluation) (has (print_list row.print) e) (eq-eqb e row.evaluation (sym same))
of_row row e (inr printed) = or_right (e == row.evaluation) (has (print_list row.print) e)
    (ap (λ o. has (print_list o) e) printed ∙ or_left (e == e) false (eq-eqb e e refl))
