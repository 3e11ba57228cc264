-- Each new number of an update is assigned.
use Rattle.std.proofs.Common.{◌≡◌, ◌⊎◌, inl, inr, ℕ, zero, suc, ◌+◌, ◌<◌, ◌≤◌, Bool, true, false, cond, ◌||◌, List, [], ◌∷◌, ◌++◌, length, map, Option, Some, None, refl, ap, sym, ◌∙◌, arith}
use mathlib.Core.Bool.{or_assoc}
use Rattle.std.proofs.lemmas.Bool.{eq-eqb, or_left, or_right, or_cases, cases_lt}
use Rattle.std.specs.Prelude.{◌==◌, slice_get, slice_index_or, flat_map, nat_lt}
use Rattle.std.specs.Option.{option_map_or}
use Rattle.text_words.specs.Members.{has}
use Rattle.doc_nodes.specs.declared.node.Entry.{Entry}
use Rattle.doc_nodes.specs.declared.node.Node.{Node}
use Rattle.exec_rules.specs.declared.row.Row.{Row}
use Rattle.exec_rules.specs.declared.row.Assigned.{Assigned}
use Rattle.exec_rules.specs.declared.home.Home.{Home}
use Rattle.exec_rules.specs.declared.home.Input.{Input}
use Rattle.exec_rules.specs.declared.home.Input.TheVariants.{First, Next}
use Rattle.exec_rules.specs.Homes.{home}
use Rattle.exec_rules.specs.Keys.{nothing_assigned}
use Rattle.exec_rules.specs.Kept.{BlobList}
use Rattle.exec_rules.specs.Assigning.{Update, head_at}
use Rattle.exec_rules.specs.Listed.{executions, print_list}
use Rattle.exec_assign.specs.Numbered.{if_new, new_evaluations, new_print, new_prints, new_of, new_at, with_numbers}
use Rattle.text_words.proofs.KnownMembers.{has_both}

-- the numbers of homes
abbrev pub numbers : List (ℕ × Home) → List ℕ
numbers pairs = map (λ pair. pair.0) pairs

numbers_both : (xs ys : List (ℕ × Home)) (e : ℕ) → has (numbers (xs ++ ys)) e ≡ (has (numbers xs) e || has (numbers ys) e)
numbers_both [] ys e = refl
numbers_both (x ∷ xs) ys e = ap (λ b. (e == x.0) || b) (numbers_both xs ys e) ∙ sym (or_assoc (e == x.0) (has (numbers xs) e) (has (numbers ys) e))

-- each of the next numbers is one
pub has_number : (first : ℕ) (homes : List Home) (e : ℕ) → first ≤ e → e < first + length homes → has (numbers (with_numbers first homes)) e ≡ true
has_number first [] e le lt = absurd (omega (arith, le, lt))
has_number first (x ∷ homes) e le lt = go (cases_lt first e) (λ more. has_number (first + 1) homes e more (omega (arith, lt)))
  where
    go : (first < e) ⊎ (e ≤ first) → (first + 1 ≤ e → has (numbers (with_numbers (first + 1) homes)) e ≡ true)
        → ((e == first) || has (numbers (with_numbers (first + 1) homes)) e) ≡ true
    go (inl more) rest = or_right (e == first) _ (rest (omega (arith, more)))
    go (inr less) rest = or_left (e == first) _ (eq-eqb e first (omega (arith, le, less)))

new_one : (first n e : ℕ) (x : Home) → has (numbers (if_new first n x)) e ≡ true → (e == n) ≡ true
new_one first n e x is = go (nat_lt n first) is
  where
    go : (b : Bool) → has (numbers (cond b [] ((n, x) ∷ []))) e ≡ true → (e == n) ≡ true
    go true is = absurd (cc)
    go false is = by (e == n) is
      where
        by : (b : Bool) → (b || false) ≡ true → b ≡ true
        by true is = refl
        by false is = is

rows_more : (r : Row) (rs : List Row) (e : ℕ) → (has (executions r) e ≡ true) ⊎ (has (flat_map executions rs) e ≡ true)
    → has (flat_map executions (r ∷ rs)) e ≡ true
rows_more r rs e (inl here) = has_both (executions r) (flat_map executions rs) e ∙ or_left _ _ here
rows_more r rs e (inr there) = has_both (executions r) (flat_map executions rs) e ∙ or_right (has (executions r) e) _ there

module _ (first : ℕ) (node : Node) (blobs : BlobList) (e : ℕ) where
  evals_in : (es : List Entry) (i : Input) (rs : List Row) → has (numbers (new_evaluations first node blobs es i rs)) e ≡ true
      → has (flat_map executions rs) e ≡ true
  evals_in [] i rs is = absurd (cc)
  evals_in (x ∷ es) i [] is = absurd (cc)
  evals_in (x ∷ es) i (r ∷ rs) is = go (or_cases _ _ (sym (numbers_both (if_new first r.evaluation (home node blobs x i))
      (new_evaluations first node blobs es (Next r.evaluation) rs) e) ∙ is)) (evals_in es (Next r.evaluation) rs)
    where
      go : (has (numbers (if_new first r.evaluation (home node blobs x i))) e ≡ true)
          ⊎ (has (numbers (new_evaluations first node blobs es (Next r.evaluation) rs)) e ≡ true)
          → (has (numbers (new_evaluations first node blobs es (Next r.evaluation) rs)) e ≡ true → has (flat_map executions rs) e ≡ true)
          → has (flat_map executions (r ∷ rs)) e ≡ true
      go (inl here) rest = rows_more r rs e (inl (or_left (e == r.evaluation) _ (new_one first r.evaluation e _ here)))
      go (inr there) rest = rows_more r rs e (inr (rest there))

  print_in : (x : Entry) (v : ℕ) (o : Option ℕ) → has (numbers (new_print first node blobs x v o)) e ≡ true → has (print_list o) e ≡ true
  print_in x v None is = absurd (cc)
  print_in x v (Some q) is = or_left (e == q) false (new_one first q e _ is)

  prints_in : (es : List Entry) (rs : List Row) → has (numbers (new_prints first node blobs es rs)) e ≡ true
      → has (flat_map executions rs) e ≡ true
  prints_in [] rs is = absurd (cc)
  prints_in (x ∷ es) [] is = absurd (cc)
  prints_in (x ∷ es) (r ∷ rs) is = go (or_cases _ _ (sym (numbers_both (new_print first node blobs x r.evaluation r.print)
      (new_prints first node blobs es rs) e) ∙ is)) (prints_in es rs)
    where
      go : (has (numbers (new_print first node blobs x r.evaluation r.print)) e ≡ true)
          ⊎ (has (numbers (new_prints first node blobs es rs)) e ≡ true)
          → (has (numbers (new_prints first node blobs es rs)) e ≡ true → has (flat_map executions rs) e ≡ true)
          → has (flat_map executions (r ∷ rs)) e ≡ true
      go (inl here) rest = rows_more r rs e (inl (or_right (e == r.evaluation) _ (print_in x r.evaluation r.print here)))
      go (inr there) rest = rows_more r rs e (inr (rest there))

rows_all : (all : List Assigned) (p e : ℕ)
    → has (flat_map executions (slice_index_or all p nothing_assigned).rows) e ≡ true
    → has (flat_map executions (flat_map (λ (a : Assigned). a.rows) all)) e ≡ true
rows_all [] p e is = absurd (cc)
rows_all (a ∷ all) zero e is = append_any a.rows (flat_map (λ (a : Assigned). a.rows) all) (inl is)
  where
    append_any : (xs ys : List Row) → (has (flat_map executions xs) e ≡ true) ⊎ (has (flat_map executions ys) e ≡ true)
        → has (flat_map executions (xs ++ ys)) e ≡ true
    append_any [] ys (inl is) = absurd (cc)
    append_any [] ys (inr is) = is
    append_any (x ∷ xs) ys (inl is) = rows_more x (xs ++ ys) e (by (or_cases _ _ (sym (has_both (executions x) (flat_map executions xs) e) ∙ is))
        (λ there. append_any xs ys (inl there)))
      where
        by : (has (executions x) e ≡ true) ⊎ (has (flat_map executions xs) e ≡ true)
            → (has (flat_map executions xs) e ≡ true → has (flat_map executions (xs ++ ys)) e ≡ true)
            → (has (executions x) e ≡ true) ⊎ (has (flat_map executions (xs ++ ys)) e ≡ true)
        by (inl here) rest = inl here
        by (inr there) rest = inr (rest there)
    append_any (x ∷ xs) ys (inr is) = rows_more x (xs ++ ys) e (inr (append_any xs ys (inr is)))
rows_all (a ∷ all) (suc p) e is = front a.rows (flat_map (λ (a : Assigned). a.rows) all) (rows_all all p e is)
  where
    front : (xs ys : List Row) → has (flat_map executions ys) e ≡ true → has (flat_map executions (xs ++ ys)) e ≡ true
    front [] ys is = is
    front (x ∷ xs) ys is = rows_more x (xs ++ ys) e (inr (front xs ys is))

module _ (u : Update) (first e : ℕ) (all : List Assigned) where
  at_in : (p : ℕ)
      → has (numbers (new_at u first (λ q. slice_index_or all q nothing_assigned) p)) e ≡ true
      → has (flat_map executions (slice_index_or all p nothing_assigned).rows) e ≡ true
  at_in p is = go (slice_get u.nodes p) is
    where
      go : (o : Option (List ℕ × Node))
          → has (numbers (option_map_or (λ (pair : List ℕ × Node). new_of u first p pair (slice_index_or all p nothing_assigned)) o [])) e ≡ true
          → has (flat_map executions (slice_index_or all p nothing_assigned).rows) e ≡ true
      go None is = absurd (cc)
      go (Some pair) is = by (or_cases _ _ (sym (numbers_both
          (new_evaluations first pair.1 u.blobs pair.1.entries (First (head_at u p pair (slice_index_or all p nothing_assigned).key)) (slice_index_or all p nothing_assigned).rows)
          (new_prints first pair.1 u.blobs pair.1.entries
          (slice_index_or all p nothing_assigned).rows) e) ∙ is))
        where
          by : (has (numbers (new_evaluations first pair.1 u.blobs pair.1.entries (First (head_at u p pair (slice_index_or all p nothing_assigned).key)) (slice_index_or all p nothing_assigned).rows)) e ≡ true)
              ⊎ (has (numbers (new_prints first pair.1 u.blobs pair.1.entries (slice_index_or all p nothing_assigned).rows)) e ≡ true)
              → has (flat_map executions (slice_index_or all p nothing_assigned).rows) e ≡ true
          by (inl is) = evals_in first pair.1 u.blobs e pair.1.entries (First (head_at u p pair (slice_index_or all p nothing_assigned).key)) (slice_index_or all p nothing_assigned).rows is
          by (inr is) = prints_in first pair.1 u.blobs e pair.1.entries
              (slice_index_or all p nothing_assigned).rows is

  -- what is new at some places is assigned
  pub new_there : (ps : List ℕ) → has (numbers (flat_map (new_at u first (λ q. slice_index_or all q nothing_assigned)) ps)) e ≡ true
      → has (flat_map executions (flat_map (λ (a : Assigned). a.rows) all)) e ≡ true
  new_there [] is = absurd (cc)
  new_there (p ∷ ps) is = go (or_cases _ _ (sym (numbers_both (new_at u first (λ q. slice_index_or
      all q nothing_assigned) p)
      (flat_map (new_at u first (λ q. slice_index_or all q nothing_assigned)) ps) e) ∙ is))
      (new_there ps)
    where
      go : (has (numbers (new_at u first (λ q. slice_index_or all q nothing_assigned) p)) e ≡ true)
          ⊎ (has (numbers (flat_map (new_at u first (λ q. slice_index_or all q nothing_assigned))
          ps)) e ≡ true)
          → (has (numbers (flat_map (new_at u first (λ q. slice_index_or all q nothing_assigned))
          ps)) e ≡ true
          → has (flat_map executions (flat_map (λ (a : Assigned). a.rows) all)) e ≡ true)
          → has (flat_map executions (flat_map (λ (a : Assigned). a.rows) all)) e ≡ true
      go (inl here) rest = rows_all all p e (at_in p here)
      go (inr there) rest = rest there
