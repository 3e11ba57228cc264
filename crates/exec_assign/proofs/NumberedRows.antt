-- The new executions of a node, each with its home.
use Rattle.std.proofs.Common.{◌≡◌, ℕ, zero, suc, ◌+◌, ◌<◌, ◌≤◌, Bool, true, false, cond, List, [], ◌∷◌, ◌++◌, length, map, take, drop, Option, Some, None, refl, ap, ◌∙◌, arith}
use Rattle.std.proofs.lemmas.Bool.{ltb-true, lt-ltb}
use Rattle.std.specs.Prelude.{slice_get, nat_lt, not, is_some, ◌&&◌}
use Rattle.std.specs.List.{zip, range_with_len}
use Rattle.std.specs.Option.{option_map_or}
use Rattle.doc_nodes.specs.declared.node.Entry.{Entry}
use Rattle.doc_nodes.specs.declared.node.Node.{Node}
use Rattle.exec_rules.specs.declared.home.Home.{Home}
use Rattle.exec_rules.specs.declared.home.Input.{Input}
use Rattle.exec_rules.specs.declared.home.Input.TheVariants.{Next, Print}
use Rattle.exec_rules.specs.Kept.{BlobList}
use Rattle.exec_rules.specs.Rows.{first_print, number_behind, with_prints}
use Rattle.exec_rules.specs.Homes.{home, print_homes}
use Rattle.exec_assign.specs.Numbered.{if_new, new_evaluations, new_print, new_prints}

not_below : (first m : ℕ) → first ≤ m → nat_lt m first ≡ false
not_below first m le = go (nat_lt m first) refl
  where
    go : (b : Bool) → nat_lt m first ≡ b → nat_lt m first ≡ false
    go true e = absurd (omega (arith, ltb-true m first e))
    go false e = e

is_new : (first m : ℕ) (h : Home) → first ≤ m → if_new first m h ≡ (m, h) ∷ []
is_new first m h le = ap (λ b. cond b [] ((m, h) ∷ [])) (not_below first m le)

is_old : (first m : ℕ) (h : Home) → m < first → if_new first m h ≡ []
is_old first m h lt = ap (λ b. cond b [] ((m, h) ∷ [])) (lt-ltb m first lt)

-- the homes of evaluations with these numbers
abbrev homes_from : Node → BlobList → List Entry → Input → List ℕ → List Home
homes_from node blobs es input vs =
    map (λ pair. home node blobs pair.0 pair.1) (zip (take (length vs) es) (input ∷ map Next vs))

-- new numbers in a row, from a front of commands on
fresh_made : (first : ℕ) (node : Node) (blobs : BlobList) (es : List Entry) (input : Input) (m d : ℕ) (live : List (Option ℕ)) (x : ℕ)
    → first ≤ m → d ≤ length es
    → new_evaluations first node blobs es input (with_prints es (range_with_len m d) live x)
    ≡ zip (range_with_len m d) (homes_from node blobs es input (range_with_len m d))
fresh_made first node blobs [] input m zero live x le lt = refl
fresh_made first node blobs (e ∷ es) input m zero live x le lt = refl
fresh_made first node blobs [] input m (suc d) live x le lt = absurd (omega arith)
fresh_made first node blobs (e ∷ es) input m (suc d) live x le lt =
    let rest = with_prints es (range_with_len (m + 1) d) (drop 1 live)
    (number_behind e (first_print live) x) in
    ap (λ (xs : List (ℕ × Home)). xs ++ new_evaluations first node blobs es (Next m) rest) (is_new first m (home node blobs e input) le)
    ∙ ap (λ (xs : List (ℕ × Home)). (m, home node blobs e input) ∷ xs)
    (fresh_made first node blobs es (Next m) (m + 1) d (drop 1 live) (number_behind e (first_print live) x) (omega arith) (omega arith))

-- behind those that are kept
pub evaluations_made : (first : ℕ) (node : Node) (blobs : BlobList) (es : List Entry) (input : Input) (xs : List ℕ) (m d : ℕ) (live : List (Option ℕ)) (x : ℕ)
    → first ≤ m → ((i y : ℕ) → slice_get xs i ≡ Some y → y < first) → length xs + d ≤ length es
    → new_evaluations first node blobs es input (with_prints es (xs ++ range_with_len m d) live x)
    ≡ zip (range_with_len m d) (drop (length xs) (homes_from node blobs es input (xs ++ range_with_len m d)))
evaluations_made first node blobs es input [] m d live x le old lt = fresh_made first node blobs es input m d live x le (omega arith)
evaluations_made first node blobs [] input (y ∷ ys) m d live x le old lt = absurd (omega arith)
evaluations_made first node blobs (e ∷ es) input (y ∷ ys) m d live x le old lt =
    let rest = with_prints es (ys ++ range_with_len m d) (drop 1 live)
    (number_behind e (first_print live) x) in
    ap (λ (zs : List (ℕ × Home)). zs ++ new_evaluations first node blobs es (Next y) rest) (is_old first y (home node blobs e input) (old zero y refl))
    ∙ evaluations_made first node blobs es (Next y) ys m d (drop 1 live) (number_behind e (first_print live) x) le (λ i z at. old (suc i) z at) (omega arith)

range_first : (x n : ℕ) → range_with_len (suc x) n ≡ range_with_len (x + 1) n
range_first x n = let same : suc x ≡ x + 1 = omega arith in ap (λ a. range_with_len a n) same

-- the first print, by what its command is
print_made : (first : ℕ) (node : Node) (blobs : BlobList) (e : Entry) (v x : ℕ) (homes : List Home) (made : ℕ → List (ℕ × Home)) → first ≤ x
    → ((y : ℕ) → first ≤ y → made y ≡ zip (range_with_len y (length homes)) homes)
    → (seen : Bool) (live : Option ℕ) → ((q : ℕ) → live ≡ Some q → q < first)
    → new_print first node blobs e v (cond seen (Some (option_map_or (λ print. print) live x)) None) ++ made (cond (seen && not (is_some live)) (suc x) x)
    ≡ zip (range_with_len x (length (cond (seen && not (is_some live)) (home node blobs e (Print v) ∷ []) [] ++ homes)))
    (cond (seen && not (is_some live)) (home node blobs e (Print v) ∷ []) [] ++ homes)
print_made first node blobs e v x homes made le rest true None old =
    ap (λ (xs : List (ℕ × Home)). xs ++ made (suc x)) (is_new first x (home node blobs e (Print v)) le)
    ∙ ap (λ (xs : List (ℕ × Home)). (x, home node blobs e (Print v)) ∷ xs)
    (rest (suc x) (omega arith) ∙ ap (λ (ns : List ℕ). zip ns homes) (range_first x (length homes)))
print_made first node blobs e v x homes made le rest true (Some q) old =
    ap (λ (xs : List (ℕ × Home)). xs ++ made x) (is_old first q (home node blobs e (Print v)) (old q refl)) ∙ rest x le
print_made first node blobs e v x homes made le rest false live old = rest x le

first_is : (ls : List (Option ℕ)) (q : ℕ) → first_print ls ≡ Some q → slice_get ls 0 ≡ Some (Some q)
first_is [] q e = absurd (cc)
first_is (l ∷ ls) q e = ap (λ o. Some o) e

later : (first : ℕ) (ls : List (Option ℕ)) → ((i q : ℕ) → slice_get ls i ≡ Some (Some q) → q < first)
    → (i q : ℕ) → slice_get (drop 1 ls) i ≡ Some (Some q) → q < first
later first [] old i q at = absurd (cc)
later first (l ∷ ls) old i q at = old (suc i) q at

-- new prints
pub prints_made : (first : ℕ) (node : Node) (blobs : BlobList) (es : List Entry) (vs : List ℕ) (live : List (Option ℕ)) (x : ℕ)
    → first ≤ x → ((i q : ℕ) → slice_get live i ≡ Some (Some q) → q < first)
    → new_prints first node blobs es (with_prints es vs live x)
    ≡ zip (range_with_len x (length (print_homes node blobs es vs live))) (print_homes node blobs es vs live)
prints_made first node blobs [] vs live x le old = refl
prints_made first node blobs (e ∷ es) [] live x le old = refl
prints_made first node blobs (e ∷ es) (v ∷ vs) live x le old =
    print_made first node blobs e v x (print_homes node blobs es vs (drop 1 live))
    (λ y. new_prints first node blobs es (with_prints es vs (drop 1 live) y)) le
    (λ y ly. prints_made first node blobs es vs (drop 1 live) y ly (later first live old))
    e.visible (first_print live) (λ q e. old 0 q (first_is live q e))
