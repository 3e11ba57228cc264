-- An update keeps the executions of a front of each node's commands, and no others.
use Rattle.std.proofs.Common.{◌≡◌, ℕ, ◌+◌, ◌-◌, ◌<◌, ◌≤◌, ◌⊎◌, inl, inr, true, List, length, Option, Some, None, refl, ap, sym, subst, ◌∙◌, arith}
use Rattle.std.proofs.lemmas.Bool.{cases_lt, eqb-true, or_cases}
use Rattle.std.specs.Prelude.{◌==◌, slice_get, option_map, is_some}
use Rattle.text_words.specs.Members.{has}
use Rattle.doc_nodes.specs.declared.node.Node.{Node}
use Rattle.doc_nodes.specs.Imports.{NodeList, order}
use Rattle.doc_nodes.specs.Wanted.{wanted_at}
use Rattle.exec_rules.specs.declared.key.Key.{Key}
use Rattle.exec_rules.specs.declared.row.Assigned.{Assigned}
use Rattle.exec_rules.specs.declared.row.Row.{Row}
use Rattle.exec_rules.specs.declared.version.Version.{Version}
use Rattle.exec_rules.specs.Kept.{BlobList}
use Rattle.exec_rules.specs.Listed.{print_list}
use Rattle.exec_rules.specs.Rows.{evaluations, live_prints}
use Rattle.exec_rules.specs.Assigning.{Update, greater, kept_of, rows_in}
use Rattle.exec_rules.proofs.KnownCounts.{kept_of_rows}
use Rattle.exec_rules.proofs.KnownGiven.{live_at, rows_given}
use Rattle.exec_rules.proofs.KnownListed.{in_print}
use Rattle.exec_rules.proofs.KnownThere.{get_there}
use Rattle.core_rules.specs.Numbered.{next_number}
use Rattle.core_rules.specs.Doc.{Doc, assignment_of, update_of, assigned_version}
use Rattle.core_rules.specs.FromScratch.{assigned_to}
use Rattle.session_rules.specs.Keeping.{HasNewRow, IsNew, KeepsFront, KeepsPrint, KeepsRow}
use Rattle.session_rules.proofs.GivenNode.{InOrder, IsGiven}
use Rattle.session_rules.proofs.GivenNodes.{given_in}
use Rattle.session_rules.proofs.KeptPrints.{live_behind, live_inside, prints_at}

abbrev evaluation : Row → ℕ
evaluation row = row.evaluation

-- what rows evaluate and print
pub record RowLaws : Type 0 where
  pub keeps : (u : Update) (p : ℕ) (pair : List ℕ × Node) (key : Key) (next i : ℕ) → slice_get u.nodes p ≡ Some pair → i < kept_of u pair key
      → option_map evaluation (slice_get (rows_given u p pair key next) i) ≡ option_map evaluation (slice_get (rows_in u.tip pair.0) i)
  pub next : (u : Update) (p : ℕ) (pair : List ℕ × Node) (key : Key) (next i : ℕ) → slice_get u.nodes p ≡ Some pair → kept_of u pair key ≤ i
      → i < wanted_at u.nodes p → option_map evaluation (slice_get (rows_given u p pair key next) i) ≡ Some (next + (i - kept_of u pair key))
  pub within : (u : Update) (p : ℕ) (pair : List ℕ × Node) (key : Key) (next i : ℕ) → slice_get u.nodes p ≡ Some pair → wanted_at u.nodes p ≤ i
      → kept_of u pair key ≤ i → slice_get (rows_given u p pair key next) i ≡ None
  pub prints : (u : Update) (p : ℕ) (pair : List ℕ × Node) (key : Key) (next i : ℕ) (row : Row) → slice_get (rows_given u p pair key next) i ≡ Some row
      → option_map (λ e. e.visible) (slice_get pair.1.entries i) ≡ Some (is_some row.print)

row_by : (o : Option Row) (v : ℕ) → option_map evaluation o ≡ Some v → (row : Row) × (o ≡ Some row) × (row.evaluation ≡ v)
row_by None v e = absurd (cc)
row_by (Some row) v e = let same : row.evaluation ≡ v = cc in (row, refl, same)

module _ (laws : RowLaws) (d : Doc) (nodes : NodeList) (blobs : BlobList) (p : ℕ) (pair : List ℕ × Node) (at : slice_get nodes p ≡ Some pair)
    (key : Key) (next : ℕ) (new : length d.homes < next) where
  abbrev u : Update
  u = update_of d nodes blobs

  abbrev k : ℕ
  k = kept_of u pair key

  abbrev live : List (Option ℕ)
  live = live_prints d.cancelled (rows_in d.tip pair.0) k

  print_at : (i : ℕ) (row : Row) → slice_get (rows_given u p pair key next) i ≡ Some row → KeepsPrint d (live_at live i) row.print
  print_at i row is = prints_at d pair.1.entries (evaluations (rows_in d.tip pair.0) k (greater k (wanted_at nodes p)) next) live
      (next + (greater k (wanted_at nodes p) - k)) i row (omega (arith, new)) is

  pub inside : (i : ℕ) → i < k → KeepsRow d pair.0 (rows_given u p pair key next) i
  inside i lt =
      let old = get_there (rows_in d.tip pair.0) i (omega (arith, lt, kept_of_rows u pair key)) in
      let now = row_by (slice_get (rows_given u p pair key next) i) old.0.evaluation
      (laws.keeps u p pair key next i at lt ∙ ap (option_map evaluation) old.1) in
      record {
        before = old.0;
        row = now.0;
        had = old.1;
        stands = now.1;
        evaluation = now.2;
        print = subst (λ o. KeepsPrint d o now.0.print) (live_inside d.cancelled (rows_in d.tip pair.0) k i old.0 lt old.1)
            (print_at i now.0 now.1);
      }

  new_evaluation : (i : ℕ) (row : Row) → k ≤ i → slice_get (rows_given u p pair key next) i ≡ Some row
      → (i < wanted_at nodes p) ⊎ (wanted_at nodes p ≤ i) → IsNew d row.evaluation
  new_evaluation i row le is (inl lt) =
      let e : Some row.evaluation ≡ Some (next + (i - k)) = ap (option_map evaluation) (sym is) ∙ laws.next u p pair key next i at le lt in
      let same : row.evaluation ≡ next + (i - k) = cc in omega (arith, new, same)
  new_evaluation i row le is (inr past) = let none = laws.within u p pair key next i at past le in absurd (cc)

  new_print : (i e : ℕ) (o : Option ℕ) → k ≤ i → KeepsPrint d (live_at live i) o → o ≡ Some e → IsNew d e
  new_print i e o le keeps is = subst (λ x. KeepsPrint d x (Some e)) (live_behind d.cancelled (rows_in d.tip pair.0) k i le)
      (subst (λ x. KeepsPrint d (live_at live i) x) is keeps)

  pub behind : (i : ℕ) → k ≤ i → HasNewRow d (rows_given u p pair key next) i
  behind i le row e is among = go (or_cases (e == row.evaluation) (has (print_list row.print) e) among)
    where
      go : ((e == row.evaluation) ≡ true) ⊎ (has (print_list row.print) e ≡ true) → IsNew d e
      go (inl same) = subst (IsNew d) (sym (eqb-true e row.evaluation same)) (new_evaluation i row le is (cases_lt i (wanted_at nodes p)))
      go (inr printed) = new_print i e row.print le (print_at i row is) (in_print row.print e printed)

-- each node of the version that an update makes
pub keeps_front : RowLaws → ((nodes : NodeList) → InOrder nodes) → (d : Doc) (nodes : NodeList) (blobs : BlobList) (p : ℕ) (pair : List ℕ × Node)
    → slice_get nodes p ≡ Some pair
    → KeepsFront d (assigned_version nodes blobs (assignment_of d nodes blobs)) p pair
keeps_front laws orders d nodes blobs p pair at =
    let u = update_of d nodes blobs in
    let new : Version = assigned_version nodes blobs (assignment_of d nodes blobs) in
    let g : IsGiven u (length d.homes) (assigned_to new) (order nodes) p pair =
    given_in u (length d.homes) (orders nodes) (next_number d.homes) (omega arith) p pair at in
    let key : Key = (assigned_to new p).key in
    record {
      key = g.key;
      inside = λ i lt. subst (λ (a : Assigned). KeepsRow d pair.0 a.rows i) (sym g.is) (inside laws d nodes blobs p pair at key g.next g.new i lt);
      behind = λ i le. subst (λ (a : Assigned). HasNewRow d a.rows i) (sym g.is) (behind laws d nodes blobs p pair at key g.next g.new i le);
      wanted = λ i le past. ap (λ (a : Assigned). slice_get a.rows i) g.is ∙ laws.within u p pair key g.next i at past le;
      prints = λ i row is. laws.prints u p pair key g.next i row (ap (λ (a : Assigned). slice_get a.rows i) (sym g.is) ∙ is);
    }
