-- The rows of a node, list by list: what each row evaluates, keeps and prints.
use Rattle.std.proofs.Common.{◌≡◌, ℕ, zero, suc, ◌+◌, ◌-◌, ◌<◌, ◌≤◌, Bool, true, false, cond, List, [], ◌∷◌, ◌++◌, length, map, take, drop, Option, Some, None, refl, ap, subst, ◌∙◌, arith}
use Rattle.std.proofs.lemmas.Bool.{false≢true}
use Rattle.std.specs.Prelude.{slice_get, option_map, is_some, IsSome}
use Rattle.std.specs.List.{range_with_len}
use Rattle.std.specs.Option.{option_map_or}
use Rattle.doc_nodes.specs.declared.node.Entry.{Entry}
use Rattle.exec_rules.specs.declared.row.Row.{Row}
use Rattle.exec_rules.specs.Rows.{evaluations, live_print, live_prints, first_print, print_of, number_behind, with_prints}
use Rattle.exec_rules.proofs.KnownGiven.{live_at, first_live, rest_live}

-- the rows have these evaluations
pub rows_evaluate : (es : List Entry) (vs : List ℕ) (live : List (Option ℕ)) (m : ℕ) → length vs ≤ length es
    → map (λ row. row.evaluation) (with_prints es vs live m) ≡ vs
rows_evaluate [] [] live m le = refl
rows_evaluate [] (v ∷ vs) live m le = absurd (omega arith)
rows_evaluate (e ∷ es) [] live m le = refl
rows_evaluate (e ∷ es) (v ∷ vs) live m le =
    ap (λ xs. v ∷ xs) (rows_evaluate es vs (drop 1 live) (number_behind e (first_print live) m)
    (omega arith))

print_seen : (v : Bool) (x : ℕ) → v ≡ is_some (cond v (Some x) None)
print_seen true x = refl
print_seen false x = refl

-- a row has a print exactly where its command is visible
pub rows_print : (es : List Entry) (vs : List ℕ) (live : List (Option ℕ)) (m i : ℕ) (row : Row)
    → slice_get (with_prints es vs live m) i ≡ Some row
    → option_map (λ e. e.visible) (slice_get es i) ≡ Some (is_some row.print)
rows_print [] vs live m i row at = absurd (cc)
rows_print (e ∷ es) [] live m i row at = absurd (cc)
rows_print (e ∷ es) (v ∷ vs) live m zero row at =
    let same : record { evaluation = v; print = print_of e (first_print live) m } ≡ row = cc in
    ap (λ b. Some b) (print_seen e.visible (option_map_or (λ print. print) (first_print live) m)
    ∙ ap (λ (r : Row). is_some r.print) same)
rows_print (e ∷ es) (v ∷ vs) live m (suc i) row at =
    rows_print es vs (drop 1 live) (number_behind e (first_print live) m) i row at

kept_first : (v : Bool) (live : Option ℕ) (m print : ℕ) → live ≡ Some print
    → IsSome (cond v (Some (option_map_or (λ p. p) live m)) None)
    → cond v (Some (option_map_or (λ p. p) live m)) None ≡ Some print
kept_first true live m print e some = ap (λ (o : Option ℕ). Some (option_map_or (λ p. p) o m)) e
kept_first false live m print e some = absurd (false≢true some)

-- it is the row's, where the row has one
pub rows_keep : (es : List Entry) (vs : List ℕ) (live : List (Option ℕ)) (m i print : ℕ) (row : Row)
    → slice_get (with_prints es vs live m) i ≡ Some row → live_at live i ≡ Some print → IsSome row.print
    → row.print ≡ Some print
rows_keep [] vs live m i print row at here some = absurd (cc)
rows_keep (e ∷ es) [] live m i print row at here some = absurd (cc)
rows_keep (e ∷ es) (v ∷ vs) live m zero print row at here some =
    let same : row ≡ record { evaluation = v; print = print_of e (first_print live) m } = cc in
    ap (λ (r : Row). r.print) same
    ∙ kept_first e.visible (first_print live) m print (first_live live ∙ here) (subst (λ (r : Row). IsSome r.print) same some)
rows_keep (e ∷ es) (v ∷ vs) live m (suc i) print row at here some =
    rows_keep es vs (drop 1 live) (number_behind e (first_print live) m) i print row at
    (rest_live live i ∙ here) some

-- what can be kept of a front
pub live_front : (cancelled : List ℕ) (rows : List Row) (k i print : ℕ) (old : Row) → i < k → slice_get rows i ≡ Some old
    → live_print cancelled old.print ≡ Some print → live_at (live_prints cancelled rows k) i ≡ Some print
live_front cancelled rows zero i print old lt at live = absurd (omega arith)
live_front cancelled [] (suc k) i print old lt at live = absurd (cc)
live_front cancelled (x ∷ xs) (suc k) zero print old lt at live =
    let same : x ≡ old = cc in ap (λ (r : Row). live_print cancelled r.print) same ∙ live
live_front cancelled (x ∷ xs) (suc k) (suc i) print old lt at live =
    live_front cancelled xs k i print old (omega arith) at live

-- a list's front, and what stands behind it
pub front_at : (xs : List Row) (ys : List ℕ) (k i : ℕ) → i < k → k ≤ length xs
    → slice_get (map (λ row. row.evaluation) (take k xs) ++ ys) i ≡ slice_get (map (λ row. row.evaluation) xs) i
front_at xs ys zero i lt le = absurd (omega arith)
front_at [] ys (suc k) i lt le = absurd (omega arith)
front_at (x ∷ xs) ys (suc k) zero lt le = refl
front_at (x ∷ xs) ys (suc k) (suc i) lt le = front_at xs ys k i (omega arith) (omega arith)

pub range_at : (a n i : ℕ) → i < n → slice_get (range_with_len a n) i ≡ Some (a + i)
range_at a zero i lt = absurd (omega arith)
range_at a (suc n) zero lt = let same : a ≡ a + 0 = omega arith in ap (λ x. Some x) same
range_at a (suc n) (suc i) lt =
    let same : a + 1 + i ≡ a + suc i = omega arith in range_at (a + 1) n i (omega arith) ∙ ap (λ x. Some x) same

pub behind_at : (xs : List Row) (k n m i : ℕ) → k ≤ i → i < n → k ≤ length xs
    → slice_get (evaluations xs k n m) i ≡ Some (m + (i - k))
behind_at xs zero n m i le lt in_rows =
    let all : n - 0 ≡ n = omega arith in
    let same : m + i ≡ m + (i - 0) = omega arith in
    ap (λ d. slice_get (range_with_len m d) i) all ∙ range_at m n i lt ∙ ap (λ x. Some x) same
behind_at [] (suc k) n m i le lt in_rows = absurd (omega arith)
behind_at (x ∷ xs) (suc k) n m zero le lt in_rows = absurd (omega arith)
behind_at (x ∷ xs) (suc k) zero m (suc i) le lt in_rows = absurd (omega arith)
behind_at (x ∷ xs) (suc k) (suc n) m (suc i) le lt in_rows =
    let shorter : suc n - suc k ≡ n - k = omega arith in
    let nearer : i - k ≡ suc i - suc k = omega arith in
    ap (λ d. slice_get (map (λ (row : Row). row.evaluation) (take k xs) ++ range_with_len m d) i) shorter
    ∙ behind_at xs k n m i (omega arith) (omega arith) (omega arith)
    ∙ ap (λ d. Some (m + d)) nearer
