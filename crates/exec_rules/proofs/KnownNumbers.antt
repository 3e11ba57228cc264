-- How many evaluations and prints have homes.
use Rattle.std.proofs.Common.{◌≡◌, ℕ, suc, ◌+◌, ◌≤◌, Bool, true, false, cond, List, [], ◌∷◌, ◌++◌, length, take, drop, Option, ◌∙◌, arith}
use Rattle.std.proofs.lemmas.List.{length-map, length-take-le}
use Rattle.std.proofs.lemmas.Slice.Zip.{length-zip}
use Rattle.std.specs.List.{zip}
use Rattle.doc_nodes.specs.declared.node.Entry.{Entry}
use Rattle.doc_nodes.specs.declared.node.Node.{Node}
use Rattle.exec_rules.specs.declared.home.Head.{Head}
use Rattle.exec_rules.specs.declared.home.Input.TheVariants.{Next, Print}
use Rattle.exec_rules.specs.Kept.{BlobList}
use Rattle.exec_rules.specs.Rows.{first_print, takes_print, behind_prints}
use Rattle.exec_rules.specs.Homes.{home, taken_up_inputs, eval_homes, print_homes}

-- the next number behind the prints is told by their homes
pub print_numbers : (node : Node) (blobs : BlobList) (es : List Entry) (vs : List ℕ) (live : List (Option ℕ)) (m : ℕ)
    → behind_prints es vs live m ≡ m + length (print_homes node blobs es vs live)
print_numbers node blobs [] vs live m = omega arith
print_numbers node blobs (e ∷ es) [] live m = omega arith
print_numbers node blobs (e ∷ es) (v ∷ vs) live m = go (takes_print e (first_print live))
    (λ next. print_numbers node blobs es vs (drop 1 live) next)
  where
    go : (b : Bool) → ((next : ℕ) → behind_prints es vs (drop 1 live) next ≡ next + length (print_homes node blobs es vs (drop 1 live)))
        → behind_prints es vs (drop 1 live) (cond b (suc m) m)
        ≡ m + length (cond b (home node blobs e (Print v) ∷ []) [] ++ print_homes node blobs es vs (drop 1 live))
    go true rest = rest (suc m) ∙ omega arith
    go false rest = rest m

-- as many evaluations as there are, where there are commands for them
pub eval_count : (node : Node) (blobs : BlobList) (head : Head) (vs : List ℕ) → length vs ≤ length node.entries
    → length (eval_homes node blobs head vs) ≡ length vs
eval_count node blobs head vs le =
    length-map (zip (take (length vs) node.entries) (taken_up_inputs head vs))
    (λ pair. home node blobs pair.0 pair.1)
    ∙ length-zip (take (length vs) node.entries) (taken_up_inputs head vs)
    ∙ omega (arith, length-take-le (length vs) node.entries le, length-map vs (λ x. Next x))
