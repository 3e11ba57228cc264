-- Where the executions that a version assigns stand.
use Rattle.std.proofs.Common.{◌≡◌, ◌⊎◌, inl, inr, ℕ, zero, suc, true, ◌||◌, List, [], ◌∷◌, ◌++◌, length, Some, refl, ap, sym, ◌∙◌, arith}
use mathlib.Core.Bool.{or_assoc}
use Rattle.std.proofs.lemmas.Bool.{eqb-true, eq-eqb, or_left, or_right, or_cases}
use Rattle.std.proofs.lemmas.Option.{slice_get_within}
use Rattle.std.specs.Prelude.{◌==◌, slice_get, flat_map}
use Rattle.std.specs.Option.{option_map_or}
use Rattle.text_words.specs.Members.{has}
use Rattle.doc_nodes.specs.declared.node.Node.{Node}
use Rattle.exec_rules.specs.declared.row.Row.{Row}
use Rattle.exec_rules.specs.declared.row.Assigned.{Assigned}
use Rattle.exec_rules.specs.declared.version.Version.{Version}
use Rattle.exec_rules.specs.Keys.{nothing_assigned}
use Rattle.exec_rules.specs.Listed.{executions, print_list}
use Rattle.exec_rules.proofs.KnownListed.{in_print}
use Rattle.exec_rules.proofs.KnownThere.{get_there}
use Rattle.core_rules.specs.Assigned.{assigns}
use Rattle.core_rules.specs.FromScratch.{assigned_to}
use Rattle.text_words.proofs.KnownMembers.{has_both}

-- the execution is one of the row's
abbrev pub IsIn : Row → ℕ → Type 0
IsIn row e = (e ≡ row.evaluation) ⊎ (row.print ≡ Some e)

-- the execution is assigned here
pub record RowAt (v : Version) (holds : Row → Type 0) : Type 0 where
  pub place : ℕ
  pub pair : List ℕ × Node
  pub node : slice_get v.nodes place ≡ Some pair
  pub index : ℕ
  pub row : Row
  pub at : slice_get (assigned_to v place).rows index ≡ Some row
  pub is : holds row

-- the evaluation is assigned
abbrev pub EvalRow : Version → ℕ → Type 0
EvalRow v e = RowAt v (λ row. e ≡ row.evaluation)

-- what a row that is assigned evaluates is assigned
pub eval_row : {v : Version} {holds : Row → Type 0} (r : RowAt v holds) (e : ℕ) → e ≡ r.row.evaluation → EvalRow v e
eval_row r e is = record {
  place = r.place;
  pair = r.pair;
  node = r.node;
  index = r.index;
  row = r.row;
  at = r.at;
  is = is;
}

pub in_row : (row : Row) (e : ℕ) → has (executions row) e ≡ true → IsIn row e
in_row row e is = go (or_cases (e == row.evaluation) (has (print_list row.print) e) is)
  where
    go : ((e == row.evaluation) ≡ true) ⊎ (has (print_list row.print) e ≡ true) → IsIn row e
    go (inl same) = inl (eqb-true e row.evaluation same)
    go (inr there) = inr (in_print row.print e there)

in_rows : (rows : List Row) (e : ℕ) → has (flat_map executions rows) e ≡ true
    → (i : ℕ) × (row : Row) × (slice_get rows i ≡ Some row) × IsIn row e
in_rows [] e is = absurd (cc)
in_rows (r ∷ rows) e is =
    go (or_cases (has (executions r) e) (has (flat_map executions rows) e)
    (sym (has_both (executions r) (flat_map executions rows) e) ∙ is)) (in_rows rows e)
  where
    go : (has (executions r) e ≡ true) ⊎ (has (flat_map executions rows) e ≡ true)
        → (has (flat_map executions rows) e ≡ true → (i : ℕ) × (row : Row) × (slice_get rows i ≡ Some row) × IsIn row e)
        → (i : ℕ) × (row : Row) × (slice_get (r ∷ rows) i ≡ Some row) × IsIn row e
    go (inl here) rest = (zero, r, refl, in_row r e here)
    go (inr there) rest = let found = rest there in (suc found.0, found.1, found.2, found.3)

rows_both : (xs ys : List Row) (e : ℕ) → has (flat_map executions (xs ++ ys)) e
    ≡ (has (flat_map executions xs) e || has (flat_map executions ys) e)
rows_both [] ys e = refl
rows_both (x ∷ xs) ys e =
    has_both (executions x) (flat_map executions (xs ++ ys)) e
    ∙ ap (λ b. has (executions x) e || b) (rows_both xs ys e)
    ∙ sym (or_assoc (has (executions x) e) (has (flat_map executions xs) e) (has (flat_map executions ys) e))
    ∙ ap (λ b. b || has (flat_map executions ys) e) (sym (has_both (executions x) (flat_map executions xs) e))

in_assigned : (all : List Assigned) (e : ℕ) → has (flat_map executions (flat_map (λ (a : Assigned). a.rows) all)) e ≡ true
    → (q : ℕ) × (a : Assigned) × (slice_get all q ≡ Some a) × (has (flat_map executions a.rows) e ≡ true)
in_assigned [] e is = absurd (cc)
in_assigned (a ∷ all) e is =
    go (or_cases _ _ (sym (rows_both a.rows (flat_map (λ (a : Assigned). a.rows) all) e) ∙ is)) (in_assigned all e)
  where
    go : (has (flat_map executions a.rows) e ≡ true)
        ⊎ (has (flat_map executions (flat_map (λ (a : Assigned). a.rows) all)) e ≡ true)
        → (has (flat_map executions (flat_map (λ (a : Assigned). a.rows) all)) e ≡ true
        → (q : ℕ) × (a : Assigned) × (slice_get all q ≡ Some a) × (has (flat_map executions a.rows) e ≡ true))
        → (q : ℕ) × (b : Assigned) × (slice_get (a ∷ all) q ≡ Some b) × (has (flat_map executions b.rows) e ≡ true)
    go (inl here) rest = (zero, a, refl, here)
    go (inr there) rest = let found = rest there in (suc found.0, found.1, found.2, found.3)

-- where an assigned execution stands
pub assigned_at_row : (v : Version) (e : ℕ) → length v.assigned ≡ length v.nodes → assigns v e ≡ true
    → RowAt v (λ row. IsIn row e)
assigned_at_row v e long is =
    let found = in_assigned v.assigned e is in
    let lt = slice_get_within v.assigned found.0 found.1 found.2 in
    let node = get_there v.nodes found.0 (omega (arith, long, lt)) in
    let row = in_rows found.1.rows e found.3 in
    record {
      place = found.0;
      pair = node.0;
      node = node.1;
      index = row.0;
      row = row.1;
      at = ap (λ o. slice_get (option_map_or (λ (a : Assigned). a) o nothing_assigned).rows row.0)
          found.2 ∙ row.2;
      is = row.3;
    }

-- the other way: what stands in a row is assigned
row_in : (rows : List Row) (i : ℕ) (row : Row) (e : ℕ) → slice_get rows i ≡ Some row → has (executions row) e ≡ true
    → has (flat_map executions rows) e ≡ true
row_in [] i row e at is = absurd (cc)
row_in (r ∷ rows) zero row e at is =
    let same : r ≡ row = cc in
    has_both (executions r) (flat_map executions rows) e
    ∙ or_left _ _ (ap (λ x. has (executions x) e) same ∙ is)
row_in (r ∷ rows) (suc i) row e at is =
    has_both (executions r) (flat_map executions rows) e ∙ or_right _ _ (row_in rows i row e at is)

pub node_in : (all : List Assigned) (q i : ℕ) (row : Row) (e : ℕ)
    → slice_get (option_map_or (λ (a : Assigned). a) (slice_get all q) nothing_assigned).rows i ≡
    Some row
    → has (executions row) e ≡ true → has (flat_map executions (flat_map (λ (a : Assigned). a.rows) all)) e ≡ true
node_in [] q i row e at is = absurd (cc)
node_in (a ∷ all) zero i row e at is =
    rows_both a.rows (flat_map (λ (a : Assigned). a.rows) all) e ∙ or_left _ _ (row_in a.rows i row e at is)
node_in (a ∷ all) (suc q) i row e at is =
    rows_both a.rows (flat_map (λ (a : Assigned). a.rows) all) e ∙ or_right _ _ (node_in all q i row e at is)

pub eval_assigned : (v : Version) (e : ℕ) → EvalRow v e → assigns v e ≡ true
eval_assigned v e r = node_in v.assigned r.place r.index r.row e r.at
    (or_left (e == r.row.evaluation) _ (eq-eqb e r.row.evaluation r.is))
