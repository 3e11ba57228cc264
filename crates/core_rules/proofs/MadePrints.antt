-- The prints that an update makes.
use Rattle.std.proofs.Common.{◌≡◌, ℕ, suc, ◌≤◌, Bool, true, false, not, ◌&&◌, cond, List, [], ◌∷◌, ◌++◌, length, drop, Option, Some, None, is_some, refl, ap, arith}
use Rattle.std.specs.Option.{option_map_or}
use Rattle.doc_nodes.specs.declared.node.Entry.{Entry}
use Rattle.doc_nodes.specs.declared.node.Node.{Node}
use Rattle.exec_rules.specs.declared.home.Input.TheVariants as input
use Rattle.exec_rules.specs.declared.home.Home.{Home}
use Rattle.exec_rules.specs.Kept.{BlobList}
use Rattle.exec_rules.specs.Rows.{first_print, takes_print, number_behind, with_prints}
use Rattle.exec_rules.specs.Homes.{home, print_homes}
use Rattle.core_rules.proofs.Tables.{AtMost, at_most_more, OlderFrom}
use Rattle.core_rules.proofs.HomedRows.{Homes, evals, PrintHomed, PrintsHomed}
use Rattle.core_rules.proofs.Made.{Numbered}
use Rattle.core_rules.proofs.KeptRows.{LiveHomed}

module _ (node old : Node) (blobs before : BlobList) where
  prints_by : (at : Homes) (e : Entry) (v m : ℕ) (seen : Bool) (live : Option ℕ) (hs : List Home) (P : ℕ → Type 0)
      → PrintHomed at node blobs e v live
      → Numbered at m (cond (seen && not (is_some live)) (home node blobs e (input.Print v) ∷ []) [] ++ hs)
      → ((k : ℕ) → Numbered at k hs → P k)
      → PrintHomed at node blobs e v (cond seen (Some (option_map_or (λ p. p) live m)) None)
      × P (cond (seen && not (is_some live)) (suc m) m)
  prints_by at e v m true None hs P all new rest = (new.0, rest (suc m) new.1)
  prints_by at e v m true (Some q) hs P all new rest = (all, rest m new)
  prints_by at e v m false live hs P all new rest = (tt, rest m new)

  -- each row's print goes by its evaluation
  pub prints_homed : (at : Homes) (es : List Entry) (vs : List ℕ) (live : List (Option ℕ)) (m : ℕ)
      → LiveHomed node old blobs before at es vs live → Numbered at m (print_homes node blobs es vs live)
      → PrintsHomed at node blobs es (with_prints es vs live m)
  prints_homed at [] vs live m all new = tt
  prints_homed at (e ∷ es) [] live m all new = tt
  prints_homed at (e ∷ es) (v ∷ vs) live m all new =
      prints_by at e v m e.visible (first_print live) (print_homes node blobs es vs (drop 1 live))
      (λ k. PrintsHomed at node blobs es (with_prints es vs (drop 1 live) k)) all.0 new
      (λ k more. prints_homed at es vs (drop 1 live) k all.1 more)

  older_by : (b : Bool) (m v : ℕ) (e : Entry) (hs : List Home) → v ≤ m → ((k : ℕ) → m ≤ k → OlderFrom k hs)
      → OlderFrom m (cond b (home node blobs e (input.Print v) ∷ []) [] ++ hs)
  older_by true m v e hs le rest = ((le, tt), rest (suc m) (omega arith))
  older_by false m v e hs le rest = rest m (omega arith)

  pub prints_older : (es : List Entry) (vs : List ℕ) (live : List (Option ℕ)) (m : ℕ) → AtMost m vs
      → OlderFrom m (print_homes node blobs es vs live)
  prints_older [] vs live m all = tt
  prints_older (e ∷ es) [] live m all = tt
  prints_older (e ∷ es) (v ∷ vs) live m all =
      older_by (takes_print e (first_print live)) m v e (print_homes node blobs es vs (drop 1 live)) all.0
      (λ k le. prints_older es vs (drop 1 live) k (at_most_more m k vs le all.1))

-- what has prints has the evaluations that were given
pub with_evals : (es : List Entry) (vs : List ℕ) (live : List (Option ℕ)) (m : ℕ) → length vs ≤ length es
    → evals (with_prints es vs live m) ≡ vs
with_evals [] [] live m le = refl
with_evals [] (v ∷ vs) live m le = absurd (omega arith)
with_evals (e ∷ es) [] live m le = refl
with_evals (e ∷ es) (v ∷ vs) live m le =
    ap (λ xs. v ∷ xs) (with_evals es vs (drop 1 live) (number_behind e (first_print live) m)
    (omega arith))
