-- Rows, one command further.
use Rattle.std.proofs.Common.{◌≡◌, ℕ, zero, suc, ◌+◌, ◌<◌, ◌≤◌, Bool, true, false, cond, List, [], ◌∷◌, ◌++◌, length, drop, get_or, Option, refl, ap, ◌∙◌, arith}
use Rattle.std.proofs.lemmas.List.{drop_more, drop_all}
use Rattle.std.specs.List.{range_with_len}
use Rattle.doc_nodes.proofs.KnownFiltered.{range_next}
use Rattle.doc_nodes.specs.declared.node.Entry.{Entry}
use Rattle.doc_nodes.specs.declared.node.Node.{Node}
use Rattle.exec_rules.specs.declared.home.Input.TheVariants.{Print}
use Rattle.exec_rules.specs.Kept.{BlobList}
use Rattle.exec_rules.specs.Rows.{first_print, print_of, takes_print, number_behind, with_prints, behind_prints}
use Rattle.exec_rules.specs.Homes.{home, print_homes}

drop_next : {X : Type 0} (xs : List X) (i : ℕ) → drop 1 (drop i xs) ≡ drop (suc i) xs
drop_next [] zero = refl
drop_next [] (suc i) = refl
drop_next (x ∷ xs) zero = refl
drop_next (x ∷ xs) (suc i) = drop_next xs i

pub drop_one : {X : Type 0} (xs : List X) (i : ℕ) → drop 1 (drop i xs) ≡ drop (i + 1) xs
drop_one xs i = let next : suc i ≡ i + 1 = omega arith in drop_next xs i ∙ ap (λ n. drop n xs) next

pub range_more : (a n : ℕ) → range_with_len a (n + 1) ≡ range_with_len a n ++ (a + n) ∷ []
range_more a n = let next : n + 1 ≡ suc n = omega arith in ap (λ k. range_with_len a k) next ∙ range_next a n

-- the next command's row
pub with_step : (es : List Entry) (vs : List ℕ) (live : List (Option ℕ)) (i m v : ℕ) (d : Entry) → i < length es → i < length vs
    → with_prints (drop i es) (drop i vs) (drop i live) m
    ≡ record { evaluation = get_or vs i v; print = print_of (get_or es i d) (first_print (drop i live)) m }
    ∷ with_prints (drop (i + 1) es) (drop (i + 1) vs) (drop (i + 1) live) (number_behind (get_or es i d) (first_print (drop i live)) m)
with_step es vs live i m v d le lv =
    ap (λ xs. with_prints xs (drop i vs) (drop i live) m) (drop_more es i d le)
    ∙ ap (λ xs. with_prints (get_or es i d ∷ drop (i + 1) es) xs (drop i live) m) (drop_more vs i v lv)
    ∙ ap (λ xs. record { evaluation = get_or vs i v; print = print_of (get_or es i d) (first_print (drop i live)) m }
    ∷ with_prints (drop (i + 1) es) (drop (i + 1) vs) xs (number_behind (get_or es i d) (first_print (drop i live)) m)) (drop_one live i)

pub behind_step : (es : List Entry) (vs : List ℕ) (live : List (Option ℕ)) (i m : ℕ) (d : Entry) → i < length es → i < length vs
    → behind_prints (drop i es) (drop i vs) (drop i live) m
    ≡ behind_prints (drop (i + 1) es) (drop (i + 1) vs) (drop (i + 1) live) (number_behind (get_or es i d) (first_print (drop i live)) m)
behind_step es vs live i m d le lv =
    ap (λ xs. behind_prints xs (drop i vs) (drop i live) m) (drop_more es i d le)
    ∙ ap (λ xs. behind_prints (get_or es i d ∷ drop (i + 1) es) xs (drop i live) m) (drop_more vs i 0 lv)
    ∙ ap (λ xs. behind_prints (drop (i + 1) es) (drop (i + 1) vs) xs (number_behind (get_or es i d) (first_print (drop i live)) m)) (drop_one live i)

with_none : (es : List Entry) (live : List (Option ℕ)) (m : ℕ) → with_prints es [] live m ≡ []
with_none [] live m = refl
with_none (e ∷ es) live m = refl

behind_none : (es : List Entry) (live : List (Option ℕ)) (m : ℕ) → behind_prints es [] live m ≡ m
behind_none [] live m = refl
behind_none (e ∷ es) live m = refl

-- none are left
pub with_over : (es : List Entry) (vs : List ℕ) (live : List (Option ℕ)) (i m : ℕ) → length vs ≤ i
    → with_prints es (drop i vs) live m ≡ []
with_over es vs live i m le = ap (λ xs. with_prints es xs live m) (drop_all i vs le) ∙ with_none es live m

pub behind_over : (es : List Entry) (vs : List ℕ) (live : List (Option ℕ)) (i m : ℕ) → length vs ≤ i
    → behind_prints es (drop i vs) live m ≡ m
behind_over es vs live i m le = ap (λ xs. behind_prints es xs live m) (drop_all i vs le) ∙ behind_none es live m

pub next_or : (b : Bool) (m : ℕ) → m ≤ cond b (suc m) m
next_or true m = omega arith
next_or false m = omega arith

-- numbers rise
pub behind_rises : (es : List Entry) (vs : List ℕ) (live : List (Option ℕ)) (m : ℕ) → m ≤ behind_prints es vs live m
behind_rises [] vs live m = omega arith
behind_rises (e ∷ es) [] live m = omega arith
behind_rises (e ∷ es) (v ∷ vs) live m =
    omega (arith, behind_rises es vs (drop 1 live) (number_behind e (first_print live) m), next_or (takes_print e (first_print live)) m)

-- the home of the next command's print
pub print_step : (node : Node) (blobs : BlobList) (es : List Entry) (vs : List ℕ) (live : List (Option ℕ)) (i v : ℕ) (d : Entry)
    → i < length es → i < length vs
    → print_homes node blobs (drop i es) (drop i vs) (drop i live)
    ≡ cond (takes_print (get_or es i d) (first_print (drop i live))) (home node blobs (get_or es i d) (Print (get_or vs i v)) ∷ []) []
    ++ print_homes node blobs (drop (i + 1) es) (drop (i + 1) vs) (drop (i + 1) live)
print_step node blobs es vs live i v d le lv =
    ap (λ xs. print_homes node blobs xs (drop i vs) (drop i live)) (drop_more es i d le)
    ∙ ap (λ xs. print_homes node blobs (get_or es i d ∷ drop (i + 1) es) xs (drop i live)) (drop_more vs i v lv)
    ∙ ap (λ xs. cond (takes_print (get_or es i d) (first_print (drop i live))) (home node blobs (get_or es i d) (Print (get_or vs i v)) ∷ []) []
    ++ print_homes node blobs (drop (i + 1) es) (drop (i + 1) vs) xs) (drop_one live i)
