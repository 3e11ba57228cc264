-- The new executions of a node, each with its home.
use Rattle.std.proofs.Common.{◌≡◌, ℕ, suc, ◌+◌, ◌-◌, ◌≤◌, List, [], ◌∷◌, ◌++◌, length, map, take, drop, Option, Some, sym, ap, ◌∙◌, arith}
use Rattle.std.proofs.lemmas.List.{length-append, length-map, length-take-le, length-drop}
use Rattle.std.proofs.lemmas.List.FromFn.{length-range_with_len}
use Rattle.std.specs.Prelude.{slice_get}
use Rattle.std.specs.List.{zip, range_with_len}
use Rattle.doc_nodes.specs.declared.node.Node.{Node}
use Rattle.doc_nodes.specs.Wanted.{wanted_at}
use Rattle.exec_rules.specs.declared.key.Key.{Key}
use Rattle.exec_rules.specs.declared.row.Row.{Row}
use Rattle.exec_rules.specs.declared.home.Home.{Home}
use Rattle.exec_rules.specs.declared.home.Input.TheVariants.{First}
use Rattle.exec_rules.specs.Rows.{evaluations, live_prints, with_prints}
use Rattle.exec_rules.specs.Homes.{eval_homes, print_homes}
use Rattle.exec_rules.specs.Assigning.{Update, rows_in, kept_of, greater, head_at, given}
use Rattle.exec_rules.proofs.KnownCounts.{greater_least, kept_of_rows, kept_of_commands}
use Rattle.exec_rules.proofs.KnownNumbers.{print_numbers, eval_count}
use Rattle.exec_assign.specs.Numbered.{new_evaluations, new_prints, new_of, with_numbers, AreBelow}
use Rattle.exec_assign.proofs.OldLemmas.{AllKeep, front_old, live_old}
use Rattle.exec_assign.proofs.WantedLemmas.{count_within}
use Rattle.exec_assign.proofs.NumberedRows.{evaluations_made, prints_made}

pub numbers_more : (m : ℕ) (hs gs : List Home) → with_numbers m hs ++ with_numbers (m + length hs) gs ≡ with_numbers m (hs ++ gs)
numbers_more m [] gs = let same : m + 0 ≡ m = omega arith in ap (λ k. with_numbers k gs) same
numbers_more m (h ∷ hs) gs =
    let next : m + suc (length hs) ≡ m + 1 + length hs = omega arith in
    ap (λ k. (m, h) ∷ (with_numbers (m + 1) hs ++ with_numbers k gs)) next ∙ ap (λ xs. (m, h) ∷ xs) (numbers_more (m + 1) hs gs)

module _ (all_keep : AllKeep) (u : Update) (p : ℕ) (pair : List ℕ × Node) (key : Key) (m : ℕ) (at : slice_get u.nodes p ≡ Some pair) where
  abbrev k : ℕ
  k = kept_of u pair key

  abbrev n : ℕ
  n = greater k (wanted_at u.nodes p)

  abbrev vs : List ℕ
  vs = evaluations (rows_in u.tip pair.0) k n m

  abbrev live : List (Option ℕ)
  live = live_prints u.cancelled (rows_in u.tip pair.0) k

  abbrev evals : List Home
  evals = drop k (eval_homes pair.1 u.blobs (head_at u p pair key) vs)

  abbrev prints : List Home
  prints = print_homes pair.1 u.blobs pair.1.entries vs live

  least : k ≤ n
  least = greater_least k (wanted_at u.nodes p)

  many : n ≤ length pair.1.entries
  many = count_within u.nodes p pair k at (kept_of_commands u pair key)

  fronts : length (map (λ (row : Row). row.evaluation) (take k (rows_in u.tip pair.0))) ≡ k
  fronts = length-map (take k (rows_in u.tip pair.0)) (λ (row : Row). row.evaluation)
      ∙ length-take-le k (rows_in u.tip pair.0) (kept_of_rows u pair key)

  long : length vs ≡ n
  long = length-append (map (λ (row : Row). row.evaluation) (take k (rows_in u.tip pair.0))) (range_with_len m (n - k))
      ∙ omega (arith, fronts, length-range_with_len m (n - k), least)

  fresh : length evals ≡ n - k
  fresh = length-drop k (eval_homes pair.1 u.blobs (head_at u p pair key) vs)
      ∙ omega (arith, long, eval_count pair.1 u.blobs (head_at u p pair key) vs (omega (arith, long, many)))

  -- there are as many numbers as homes
  pub given_numbers : (given u p pair key m).next ≡ m + length (given u p pair key m).homes
  given_numbers = print_numbers pair.1 u.blobs pair.1.entries vs live (m + (n - k))
      ∙ omega (arith, fresh, length-append evals prints)

  -- the new executions are those of the homes
  pub given_made : (first : ℕ) → AreBelow first u.tip → first ≤ m
      → new_of u first p pair (given u p pair key m).assigned ≡ with_numbers m (given u p pair key m).homes
  given_made first old le =
      let head = head_at u p pair key in
      let rows = rows_in u.tip pair.0 in
      let front = map (λ (row : Row). row.evaluation) (take k rows) in
      let made = with_prints pair.1.entries vs live (m + (n - k)) in
      let evaluated : new_evaluations first pair.1 u.blobs pair.1.entries (First head) made ≡ with_numbers m evals =
      evaluations_made first pair.1 u.blobs pair.1.entries (First head) front m (n - k) live (m + (n - k)) le
      (front_old rows k first (λ i row here. (old pair.0 i row here).evaluation)) (omega (arith, fronts, least, many))
      ∙ ap (λ (j : ℕ). zip (range_with_len m (n - k)) (drop j (eval_homes pair.1 u.blobs head vs))) fronts
      ∙ ap (λ (j : ℕ). zip (range_with_len m j) evals) (sym fresh) in
      let printed : new_prints first pair.1 u.blobs pair.1.entries made ≡ with_numbers (m + length evals) prints =
      prints_made first pair.1 u.blobs pair.1.entries vs live (m + (n - k)) (omega (arith, le))
      (live_old u.cancelled rows k first (λ i row here. (old pair.0 i row here).print))
      ∙ ap (λ (j : ℕ). with_numbers (m + j) prints) (sym fresh) in
      ap (λ (xs : List (ℕ × Home)). xs ++ new_prints first pair.1 u.blobs pair.1.entries made) evaluated
      ∙ ap (λ (xs : List (ℕ × Home)). with_numbers m evals ++ xs) printed
      ∙ numbers_more m evals prints
