-- What an update gives a node goes by what stands beside it, where what the node had before did.
use Rattle.std.proofs.Common.{◌≡◌, ℕ, suc, ◌+◌, ◌-◌, ◌<◌, ◌≤◌, List, [], ◌∷◌, ◌++◌, length, take, drop, Option, refl, ap, sym, subst, ◌∙◌, arith}
use Rattle.text_words.proofs.KnownLists.{each-both}
use Rattle.std.proofs.lemmas.List.{length-append, length-map, length-take-le, length-drop}
use Rattle.std.proofs.lemmas.List.FromFn.{length-range_with_len}
use Rattle.std.specs.List.{range_with_len}
use Rattle.doc_nodes.specs.declared.node.Entry.{Entry}
use Rattle.doc_nodes.specs.declared.node.Node.{Node}
use Rattle.exec_rules.specs.declared.row.Row.{Row}
use Rattle.exec_rules.specs.declared.home.Head.{Head}
use Rattle.exec_rules.specs.declared.home.Input.{Input}
use Rattle.exec_rules.specs.declared.home.Input.TheVariants as input
use Rattle.exec_rules.specs.declared.home.Home.{Home}
use Rattle.exec_rules.specs.Kept.{BlobList}
use Rattle.exec_rules.specs.Rows.{evaluations, live_prints}
use Rattle.exec_rules.specs.Homes.{eval_homes, print_homes}
use Rattle.exec_rules.specs.Assigning.{Update, rows_in, node_given}
use Rattle.core_rules.specs.Parts.{sources_of}
use Rattle.core_rules.proofs.Tables.{AtMost, at_most_more, OlderFrom}
use Rattle.core_rules.proofs.HomedRows.{Homes, evals, EvalsHomed, PrintsHomed, RowsHomed}
use Rattle.core_rules.proofs.Made.{Numbered, numbered_front, numbered_back, homes_from}
use Rattle.core_rules.proofs.KeptRows.{at_most_range, at_most_front, SameFront, kept_homed, kept_older, kept_live}
use Rattle.core_rules.proofs.MadePrints.{prints_homed, prints_older, with_evals}

-- what a node had before, of which k evaluations are kept
pub record Before (at : Homes) (u : Update) (pair : List ℕ × Node) (head : Head) (rows : List Row)
    (k m : ℕ) : Type 0 where
  pub old : Node
  pub begins : Input
  pub same : SameFront pair.1 old u.blobs u.tip.blobs k pair.1.entries old.entries
  pub evaluate : EvalsHomed at old u.tip.blobs old.entries (evals rows) begins
  pub print : PrintsHomed at old u.tip.blobs old.entries rows
  pub first : 0 < k → begins ≡ input.First head
  pub long : k ≤ length rows
  pub within : AtMost m (evals rows)

homes_long : (node : Node) (blobs : BlobList) (es : List Entry) (vs : List ℕ) (i : Input) → length vs ≤ length es
    → length (homes_from node blobs es vs i) ≡ length vs
homes_long node blobs es [] i le = refl
homes_long node blobs [] (v ∷ vs) i le = absurd (omega arith)
homes_long node blobs (e ∷ es) (v ∷ vs) i le = ap suc (homes_long node blobs es vs (input.Next v) (omega arith))

evals_count : (rs : List Row) (k d next : ℕ) → k ≤ length rs → length (evals (take k rs) ++ range_with_len next d) ≡ k + d
evals_count rs k d next le =
    length-append (evals (take k rs)) (range_with_len next d)
    ∙ omega (arith, length-map (take k rs) (λ (r : Row). r.evaluation), length-take-le k rs le, length-range_with_len next d)

-- one list of homes behind another
older_both : (m n : ℕ) (xs ys : List Home) → m + length xs ≡ n → OlderFrom m xs → OlderFrom n ys → OlderFrom m (xs ++ ys)
older_both m n [] ys e a b = let same : n ≡ m = omega (arith, e) in subst (λ k. OlderFrom k ys) same b
older_both m n (x ∷ xs) ys e a b = (a.0, older_both (suc m) n xs ys (omega (arith, e)) a.1 b)

module _ (at : Homes) (u : Update) (pair : List ℕ × Node) (head : Head) (k n next m : ℕ)
    (b : Before at u pair head (rows_in u.tip pair.0) k m) (le : k ≤ n) (within : n ≤ length pair.1.entries) (count : next ≡ suc m) where
  abbrev rows : List Row
  rows = rows_in u.tip pair.0

  abbrev vs : List ℕ
  vs = evaluations rows k n next

  abbrev live : List (Option ℕ)
  live = live_prints u.cancelled rows k

  abbrev made : List Home
  made = drop k (eval_homes pair.1 u.blobs head vs)

  vs_count : length vs ≡ k + (n - k)
  vs_count = evals_count rows k (n - k) next b.long

  pub vs_long : length vs ≡ n
  vs_long = vs_count ∙ omega arith

  pub made_long : length made ≡ n - k
  made_long = length-drop k (eval_homes pair.1 u.blobs head vs)
      ∙ omega (arith, homes_long pair.1 u.blobs pair.1.entries vs (input.First head) (omega (arith, vs_long, within)), vs_count)

  vs_within : AtMost (m + (n - k)) vs
  vs_within = each-both (λ x. x ≤ m + (n - k)) (evals (take k rows)) (range_with_len next (n - k))
      (at_most_front (m + (n - k)) k rows (at_most_more m (m + (n - k)) (evals rows) (omega arith) b.within))
      (at_most_range (m + (n - k)) next (n - k) (omega (arith, count)))

  pub node_evals : length (evals (node_given u pair head k n next).assigned.rows) ≡ n
  node_evals = ap length (with_evals pair.1.entries vs live (next + (n - k)) (omega (arith, vs_long, within))) ∙ vs_long

  pub node_evals_within : AtMost (m + (n - k))
      (evals (node_given u pair head k n next).assigned.rows)
  node_evals_within = subst (AtMost (m + (n - k)))
      (sym (with_evals pair.1.entries vs live (next + (n - k)) (omega (arith, vs_long, within)))) vs_within

  pub node_homed : Numbered at next (node_given u pair head k n next).homes
      → RowsHomed at pair.1 u.blobs pair.1.entries (node_given u pair head k n next).assigned.rows
      (input.First head)
  node_homed all = record {
    evaluate = subst (λ xs. EvalsHomed at pair.1 u.blobs pair.1.entries xs (input.First head))
        (sym (with_evals pair.1.entries vs live (next + (n - k)) (omega (arith, vs_long, within))))
        (kept_homed pair.1 b.old u.blobs u.tip.blobs at next (n - k) k pair.1.entries b.old.entries rows (input.First head)
        b.begins b.same b.evaluate b.first b.long (omega (arith, le, within)) (numbered_front at next made _ all));
    print = prints_homed pair.1 b.old u.blobs u.tip.blobs at pair.1.entries vs live (next + (n - k))
        (kept_live pair.1 b.old u.blobs u.tip.blobs at u.cancelled k pair.1.entries b.old.entries rows _ b.same b.print)
        (numbered_back at next (next + (n - k)) made _ (omega (arith, made_long)) all);
  }

  pub node_older : AtMost m (sources_of (input.First head))
      → OlderFrom m (node_given u pair head k n next).homes
  node_older all = older_both m (m + (n - k)) made (print_homes pair.1 u.blobs pair.1.entries vs live) (omega (arith, made_long))
      (kept_older pair.1 b.old u.blobs u.tip.blobs at next (n - k) m k pair.1.entries rows (input.First head) count b.within
      all b.long)
      (prints_older pair.1 b.old u.blobs u.tip.blobs pair.1.entries vs live (m + (n - k)) vs_within)
