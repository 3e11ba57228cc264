-- The results of a node.
use Rattle.std.proofs.Common.{◌≡◌, ℕ, zero, suc, Bool, true, false, cond, ◌||◌, List, [], ◌∷◌, map, filter, Option, Some, refl, ap, sym, ◌∙◌}
use Rattle.std.proofs.lemmas.Bool.{or_left, or_right}
use Rattle.std.specs.Prelude.{◌==◌, slice_get, flat_map, find}
use Rattle.std.specs.Option.{option_map, option_map_or, option_and_then}
use Rattle.std.specs.List.Sorted.{IsStrictlyIncreasing}
use Rattle.text_words.specs.Members.{has}
use Rattle.text_words.proofs.KnownMembers.{has_both}
use Rattle.doc_nodes.specs.Imports.{place_of}
use Rattle.core_tables.specs.declared.versions.Live.{Live}
use Rattle.core_tables.specs.Live.{version_of}
use Rattle.exec_rules.specs.declared.row.Row.{Row}
use Rattle.exec_rules.specs.declared.row.Assigned.{Assigned}
use Rattle.exec_rules.specs.declared.version.Version.{Version}
use Rattle.exec_rules.specs.Assigning.{entries_at, entries_in, rows_in}
use Rattle.exec_rules.specs.Listed.{executions}
use Rattle.language.specs.Lang.{Lang}
use Rattle.core_rules.specs.declared.event.Event.{Event}
use Rattle.core_rules.specs.Assigned.{assigns, is_assigned}
use Rattle.core_rules.specs.Doc.{doc}
use Rattle.prover_core.specs.Kept.{Tables, IsKept}
use Rattle.core_jobs.specs.Parts.{told_part, rows_known, is_unfinished}
use Rattle.prover_core.specs.Results.{AreResultsIn}
use Rattle.core_jobs.specs.declared.results.NodeResults.{NodeResults}
use Rattle.prover_core.proofs.ShownRows.{rows_shown, open_risen}

-- what a version assigns that is found is assigned
pub found_assigns : (live : List (Live Version)) (id e : ℕ) (v : Version) → version_of live id ≡ Some v → assigns v e ≡ true
    → is_assigned live e ≡ true
found_assigns [] id e v at is = absurd (cc)
found_assigns (one ∷ live) id e v at is = go (one.id == id) at (found_assigns live id e v)
  where
    go : (b : Bool) → option_map (λ (x : Live Version). x.version) (cond b (Some one) (find (λ (x : Live Version). x.id == id) live)) ≡ Some v
        → (version_of live id ≡ Some v → assigns v e ≡ true → is_assigned live e ≡ true)
        → is_assigned (one ∷ live) e ≡ true
    go true at rest = let same : one.version ≡ v = cc in
        or_left (assigns one.version e) (is_assigned live e) (ap (λ x. assigns x e) same ∙ is)
    go false at rest = or_right (assigns one.version e) (is_assigned live e) (rest at is)

-- what stands in some of these rows stands in one of them
row_with : (rows : List Row) (e : ℕ) → has (flat_map executions rows) e ≡ true
    → (i : ℕ) × (row : Row) × (slice_get rows i ≡ Some row) × (has (executions row) e ≡ true)
row_with [] e is = absurd (cc)
row_with (row ∷ rows) e is = go (has (executions row) e) refl (row_with rows e)
  where
    go : (b : Bool) → has (executions row) e ≡ b
        → (has (flat_map executions rows) e ≡ true
        → (i : ℕ) × (r : Row) × (slice_get rows i ≡ Some r) × (has (executions r) e ≡ true))
        → (i : ℕ) × (r : Row) × (slice_get (row ∷ rows) i ≡ Some r) × (has (executions r) e ≡ true)
    go true here more = (zero, row, refl, here)
    go false here more =
        let rest = more (sym (has_both (executions row) (flat_map executions rows) e
        ∙ ap (λ b. b || has (flat_map executions rows) e) here) ∙ is) in
        (suc rest.0, rest.1, rest.2, rest.3)

abbrev rows_of : Option Assigned → List Row
rows_of o = option_map_or (λ (node : Assigned). node.rows) o []

module _ {S : Type 0} (l : Lang S) (h : List Event) (t : Tables S) (k : IsKept l h t) (id : ℕ) (name : List ℕ) (v : Version)
    (there : (v : Version) (name : List ℕ) (i e : ℕ) (row : Row) → slice_get (rows_in v name) i ≡ Some row
    → has (executions row) e ≡ true → assigns v e ≡ true) (live : version_of (doc l h).live id ≡ Some v) where
  assigned : (i e : ℕ) (row : Row) → slice_get (rows_in v name) i ≡ Some row → has (executions row) e ≡ true
      → is_assigned (doc l h).live e ≡ true
  assigned i e row at is = found_assigns (doc l h).live id e v live (there v name i e row at is)

  pub results_so : (results : NodeResults) (place : ℕ) → place_of v.nodes name ≡ Some place
      → map told_part results.parts.items ≡ rows_known t.rows (entries_at v.nodes place)
      (rows_of (slice_get v.assigned place))
      → IsStrictlyIncreasing results.pending.items
      → ((e : ℕ) → has results.pending.items e
      ≡ has (filter (λ n. is_unfinished (t.rows n)) (flat_map executions (rows_of (slice_get v.assigned place)))) e)
      → AreResultsIn l h id name results
  results_so results place at parts rises same = record {
    version = v;
    live = live;
    place = place;
    node = at;
    parts = parts ∙ ap (λ es. rows_known t.rows es (rows_of (slice_get v.assigned place))) (sym entries)
        ∙ ap (λ rs. rows_known t.rows (entries_in v name) rs) (sym rows)
        ∙ sym (rows_shown l h t k (entries_in v name) (rows_in v name) assigned);
    pending_is = open_risen l h t k (flat_map executions (rows_in v name)) results.pending.items all rises
        (λ e. same e ∙ ap (λ rs. has (filter (λ n. is_unfinished (t.rows n)) (flat_map executions rs)) e) (sym rows));
  }
    where
      entries : entries_in v name ≡ entries_at v.nodes place
      entries = ap (λ o. option_map_or (entries_at v.nodes) o []) at

      rows : rows_in v name ≡ rows_of (slice_get v.assigned place)
      rows = ap (λ o. rows_of (option_and_then (slice_get v.assigned) o)) at

      all : (e : ℕ) → has (flat_map executions (rows_in v name)) e ≡ true → is_assigned (doc l h).live e ≡ true
      all e is = let r = row_with (rows_in v name) e is in assigned r.0 e r.1 r.2 r.3
