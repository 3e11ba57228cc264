-- Rows, command by command.
use Rattle.std.proofs.Common.{◌≡◌, ℕ, ◌+◌, ◌<◌, ◌≤◌, cond, List, [], ◌∷◌, ◌++◌, length, drop, get_or, Option, refl, sym, ap, ◌∙◌, arith, append_assoc}
use Rattle.std.proofs.lemmas.List.{drop_all}
use Rattle.exec_assign.proofs.RowSteps.{with_step, behind_step, next_or, behind_rises, print_step}
use Rattle.doc_nodes.specs.declared.node.Entry.{Entry}
use Rattle.doc_nodes.specs.declared.node.Node.{Node}
use Rattle.exec_rules.specs.declared.row.Row.{Row}
use Rattle.exec_rules.specs.declared.home.Home.{Home}
use Rattle.exec_rules.specs.declared.home.Input.TheVariants.{Print}
use Rattle.exec_rules.specs.Kept.{BlobList}
use Rattle.exec_rules.specs.Rows.{first_print, print_of, takes_print, number_behind, with_prints, behind_prints}
use Rattle.exec_rules.specs.Homes.{home, print_homes}

homes_none : (node : Node) (blobs : BlobList) (es : List Entry) (live : List (Option ℕ)) → print_homes node blobs es [] live ≡ []
homes_none node blobs [] live = refl
homes_none node blobs (e ∷ es) live = refl

pub homes_over : (node : Node) (blobs : BlobList) (es : List Entry) (vs : List ℕ) (live : List (Option ℕ)) (i : ℕ) → length vs ≤ i
    → print_homes node blobs es (drop i vs) live ≡ []
homes_over node blobs es vs live i le = ap (λ xs. print_homes node blobs es xs live) (drop_all i vs le) ∙ homes_none node blobs es live

-- one row more
pub with_next : (es : List Entry) (vs : List ℕ) (live : List (Option ℕ)) (i m : ℕ) (e : Entry) (v : ℕ) (kept print : Option ℕ) (rows more all : List Row)
    → i < length es → i < length vs → e ≡ get_or es i e → v ≡ get_or vs i v → kept ≡ first_print (drop i live) → print ≡ print_of e kept m
    → more ≡ rows ++ record { evaluation = v; print = print } ∷ []
    → rows ++ with_prints (drop i es) (drop i vs) (drop i live) m ≡ all
    → more ++ with_prints (drop (i + 1) es) (drop (i + 1) vs) (drop (i + 1) live)
    (number_behind e kept m) ≡ all
with_next es vs live i m e v kept print rows more all le lv ee ev ek ep em done =
    let rest : ℕ → List Row = λ n. with_prints (drop (i + 1) es) (drop (i + 1) vs) (drop (i + 1) live) n in
    let here : with_prints (drop i es) (drop i vs) (drop i live) m ≡ record { evaluation = v; print = print } ∷ rest (number_behind e kept m) =
    with_step es vs live i m v e le lv
    ∙ ap (λ (x : Entry). record { evaluation = get_or vs i v; print = print_of x (first_print (drop i live)) m } ∷ rest (number_behind x (first_print (drop i live)) m)) (sym ee)
    ∙ ap (λ (k : Option ℕ). record { evaluation = get_or vs i v; print = print_of e k m } ∷ rest
    (number_behind e k m)) (sym ek)
    ∙ ap (λ (x : ℕ). record { evaluation = x; print = print_of e kept m } ∷ rest
    (number_behind e kept m)) (sym ev)
    ∙ ap (λ (p : Option ℕ). record { evaluation = v; print = p } ∷ rest (number_behind e kept m))
    (sym ep) in
    ap (λ (xs : List Row). xs ++ rest (number_behind e kept m)) em
    ∙ append_assoc rows (record { evaluation = v; print = print } ∷ [])
    (rest (number_behind e kept m))
    ∙ ap (λ (xs : List Row). rows ++ xs) (sym here) ∙ done

pub behind_next : (es : List Entry) (vs : List ℕ) (live : List (Option ℕ)) (i m : ℕ) (e : Entry) (kept : Option ℕ)
    → i < length es → i < length vs → e ≡ get_or es i e → kept ≡ first_print (drop i live)
    → behind_prints (drop (i + 1) es) (drop (i + 1) vs) (drop (i + 1) live) (number_behind e kept m) ≡ behind_prints (drop i es) (drop i vs) (drop i live) m
behind_next es vs live i m e kept le lv ee ek =
    ap (λ (k : Option ℕ). behind_prints (drop (i + 1) es) (drop (i + 1) vs) (drop (i + 1) live)
    (number_behind e k m)) ek
    ∙ ap (λ (x : Entry). behind_prints (drop (i + 1) es) (drop (i + 1) vs) (drop (i + 1) live) (number_behind x (first_print (drop i live)) m)) ee
    ∙ sym (behind_step es vs live i m e le lv)

pub behind_first : (e : Entry) (kept : Option ℕ) (m : ℕ) → m ≤ number_behind e kept m
behind_first e kept m = next_or (takes_print e kept) m

-- where the next print passes a number, the last one does
pub behind_over_next : (es : List Entry) (vs : List ℕ) (live : List (Option ℕ)) (i m n top : ℕ) (e : Entry) (kept : Option ℕ)
    → i < length es → i < length vs → e ≡ get_or es i e → kept ≡ first_print (drop i live)
    → behind_prints (drop i es) (drop i vs) (drop i live) m ≡ n → top < number_behind e kept m
    → top < n
behind_over_next es vs live i m n top e kept le lv ee ek same over =
    omega (
      arith,
      over,
      same,
      behind_next es vs live i m e kept le lv ee ek,
      behind_rises (drop (i + 1) es) (drop (i + 1) vs) (drop (i + 1) live)
          (number_behind e kept m),
    )

-- one print more
pub print_next : (node : Node) (blobs : BlobList) (es : List Entry) (vs : List ℕ) (live : List (Option ℕ)) (i : ℕ) (e : Entry) (v : ℕ) (kept : Option ℕ)
    → (homes more all : List Home) → i < length es → i < length vs → e ≡ get_or es i e → v ≡ get_or vs i v → kept ≡ first_print (drop i live)
    → more ≡ homes ++ cond (takes_print e kept) (home node blobs e (Print v) ∷ []) []
    → homes ++ print_homes node blobs (drop i es) (drop i vs) (drop i live) ≡ all
    → more ++ print_homes node blobs (drop (i + 1) es) (drop (i + 1) vs) (drop (i + 1) live) ≡ all
print_next node blobs es vs live i e v kept homes more all le lv ee ev ek em done =
    let rest = print_homes node blobs (drop (i + 1) es) (drop (i + 1) vs) (drop (i + 1) live) in
    let one : Entry → ℕ → Option ℕ → List Home = λ x y k. cond (takes_print x k) (home node blobs x (Print y) ∷ []) [] in
    let here : print_homes node blobs (drop i es) (drop i vs) (drop i live) ≡ one e v kept ++ rest =
    print_step node blobs es vs live i v e le lv
    ∙ ap (λ (x : Entry). one x (get_or vs i v) (first_print (drop i live)) ++ rest) (sym ee)
    ∙ ap (λ (y : ℕ). one e y (first_print (drop i live)) ++ rest) (sym ev)
    ∙ ap (λ (k : Option ℕ). one e v k ++ rest) (sym ek) in
    ap (λ (xs : List Home). xs ++ rest) em
    ∙ append_assoc homes (one e v kept) rest
    ∙ ap (λ (xs : List Home). homes ++ xs) (sym here) ∙ done
