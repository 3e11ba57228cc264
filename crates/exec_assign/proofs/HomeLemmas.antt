-- The homes of evaluations, one by one.
use Rattle.std.proofs.Common.{◌≡◌, ℕ, zero, suc, ◌+◌, ◌-◌, ◌<◌, ◌≤◌, List, [], ◌∷◌, ◌++◌, append_assoc, length, map, take, drop, get_or, Some, sym, ap, ◌∙◌, arith}
use Rattle.std.proofs.lemmas.List.{drop_all}
use Rattle.std.proofs.lemmas.Option.{slice_get-map, slice_get-get_or}
use Rattle.std.specs.Prelude.{slice_get, option_map}
use Rattle.std.specs.List.{zip}
use Rattle.doc_nodes.specs.declared.node.Entry.{Entry}
use Rattle.doc_nodes.specs.declared.node.Node.{Node}
use Rattle.exec_rules.specs.declared.home.Head.{Head}
use Rattle.exec_rules.specs.declared.home.Home.{Home}
use Rattle.exec_rules.specs.declared.home.Input.{Input}
use Rattle.exec_rules.specs.declared.home.Input.TheVariants.{Next}
use Rattle.exec_rules.specs.Kept.{BlobList}
use Rattle.exec_rules.specs.Homes.{home, taken_up_inputs, eval_homes}
use Rattle.exec_rules.proofs.KnownNumbers.{eval_count}

pair_at : {X Y Z : Type 0} (f : X × Y → Z) (xs : List X) (ys : List Y) (n i : ℕ) (d : X) (y : Y) → i < n → i < length xs
    → slice_get ys i ≡ Some y
    → drop i (map f (zip (take n xs) ys)) ≡ f (get_or xs i d, y) ∷ drop (suc i) (map f (zip (take n xs) ys))
pair_at f xs ys zero i d y lt le at = absurd (omega arith)
pair_at f [] ys (suc n) i d y lt le at = absurd (omega arith)
pair_at f (x ∷ xs) [] (suc n) i d y lt le at = absurd (cc)
pair_at f (x ∷ xs) (z ∷ ys) (suc n) zero d y lt le at =
    let same : z ≡ y = cc in ap (λ w. f (x, w) ∷ map f (zip (take n xs) ys)) same
pair_at f (x ∷ xs) (z ∷ ys) (suc n) (suc i) d y lt le at = pair_at f xs ys n i d y (omega arith) (omega arith) at

-- the next evaluation's home
pub eval_step : (node : Node) (blobs : BlobList) (head : Head) (vs : List ℕ) (i : ℕ) (d : Entry) (input : Input)
    → i < length vs → length vs ≤ length node.entries
    → Some input ≡ slice_get (taken_up_inputs head vs) i
    → drop i (eval_homes node blobs head vs)
    ≡ home node blobs (get_or node.entries i d) input ∷ drop (i + 1) (eval_homes node blobs head vs)
eval_step node blobs head vs i d input lt le at =
    let next : suc i ≡ i + 1 = omega arith in
    pair_at (λ pair. home node blobs pair.0 pair.1) node.entries (taken_up_inputs head vs) (length vs) i d input lt (omega arith) (sym at)
    ∙ ap (λ n. home node blobs (get_or node.entries i d) input ∷ drop n (eval_homes node blobs head vs)) next

pub eval_over : (node : Node) (blobs : BlobList) (head : Head) (vs : List ℕ) (i : ℕ) → length vs ≤ length node.entries → length vs ≤ i
    → drop i (eval_homes node blobs head vs) ≡ []
eval_over node blobs head vs i le over = drop_all i (eval_homes node blobs head vs) (omega (arith, eval_count node blobs head vs le))

-- what an evaluation behind the first takes up
pub taken_next : (head : Head) (vs : List ℕ) (place before d : ℕ) → place < length vs → 1 ≤ place → before ≡ place - 1
    → Some (Next (get_or vs before d)) ≡ slice_get (taken_up_inputs head vs) place
taken_next head vs zero before d lt first same = absurd (omega arith)
taken_next head vs (suc i) before d lt first same =
    let there : before ≡ i = omega arith in
    ap (λ j. Some (Next (get_or vs j d))) there
    ∙ ap (option_map (λ v. Next v)) (sym (slice_get-get_or vs i d (omega arith)))
    ∙ sym (slice_get-map (λ v. Next v) vs i)

-- one home more
pub eval_next : (node : Node) (blobs : BlobList) (head : Head) (vs : List ℕ) (i : ℕ) (e : Entry) (input : Input) (made : Home) (homes more all : List Home)
    → i < length vs → length vs ≤ length node.entries → e ≡ get_or node.entries i e → Some input ≡ slice_get (taken_up_inputs head vs) i
    → made ≡ home node blobs e input → more ≡ homes ++ made ∷ [] → homes ++ drop i (eval_homes node blobs head vs) ≡ all
    → more ++ drop (i + 1) (eval_homes node blobs head vs) ≡ all
eval_next node blobs head vs i e input made homes more all lt le ee at made_is em done =
    let rest = drop (i + 1) (eval_homes node blobs head vs) in
    let here : drop i (eval_homes node blobs head vs) ≡ made ∷ rest =
    eval_step node blobs head vs i e input lt le at
    ∙ ap (λ (x : Entry). home node blobs x input ∷ rest) (sym ee)
    ∙ ap (λ (h : Home). h ∷ rest) (sym made_is) in
    ap (λ (xs : List Home). xs ++ rest) em
    ∙ append_assoc homes (made ∷ []) rest
    ∙ ap (λ (xs : List Home). homes ++ xs) (sym here) ∙ done
