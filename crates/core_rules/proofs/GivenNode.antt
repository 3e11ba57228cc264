-- A node that is given its rows: they go by what stands beside them, and the numbers go on.
use Rattle.std.proofs.Common.{◌≡◌, ℕ, zero, suc, ◌+◌, ◌-◌, ◌≤◌, List, [], ◌∷◌, length, drop, sym, subst, ◌∙◌, arith}
use Rattle.std.proofs.lemmas.List.{length-append, length-map}
use Rattle.doc_nodes.specs.declared.node.Entry.{Entry}
use Rattle.doc_nodes.specs.declared.node.Node.{Node}
use Rattle.exec_rules.specs.declared.row.Row.{Row}
use Rattle.exec_rules.specs.declared.home.Head.{Head}
use Rattle.exec_rules.specs.declared.home.Home.{Home}
use Rattle.exec_rules.specs.declared.home.Input.TheVariants as input
use Rattle.exec_rules.specs.Kept.{BlobList}
use Rattle.exec_rules.specs.Rows.{evaluations, live_prints}
use Rattle.exec_rules.specs.Homes.{eval_homes, print_homes}
use Rattle.exec_rules.specs.Assigning.{Update, rows_in, node_given}
use Rattle.exec_rules.proofs.KnownNumbers.{print_numbers}
use Rattle.core_rules.specs.Numbered.{numbered, grown}
use Rattle.core_rules.specs.Parts.{sources_of}
use Rattle.core_rules.proofs.KnownNumbers.{length_grown}
use Rattle.core_rules.proofs.Tables.{AtMost, AreOlder, older_grown}
use Rattle.core_rules.proofs.HomedRows.{Homes, evals, Extends, evals_on, prints_on, RowsHomed}
use Rattle.core_rules.proofs.Made.{Numbered, numbered_all}
use Rattle.core_rules.proofs.KeptRows.{SameFront}
use Rattle.core_rules.proofs.NodeMade.{Before, made_long, node_evals, node_homed, node_older}
use Rattle.core_rules.proofs.Sound.{extends_grown}

pub front_within : (node old : Node) (blobs before : BlobList) (k : ℕ) (es bs : List Entry)
    → SameFront node old blobs before k es bs → k ≤ length es
front_within node old blobs before zero es bs same = omega arith
front_within node old blobs before (suc k) [] bs same = absurd same
front_within node old blobs before (suc k) (e ∷ es) [] same = absurd same
front_within node old blobs before (suc k) (e ∷ es) (b ∷ bs) same =
    let le = front_within node old blobs before k es bs same.1 in omega arith

before_on : (at on : Homes) (more : Extends at on) (u : Update) (pair : List ℕ × Node) (head : Head) (rows : List Row)
    (k m : ℕ) → Before at u pair head rows k m → Before on u pair head rows k m
before_on at on more u pair head rows k m b = record {
  old = b.old;
  begins = b.begins;
  same = b.same;
  evaluate = evals_on at on more b.old u.tip.blobs b.old.entries (evals rows) b.begins b.evaluate;
  print = prints_on at on more b.old u.tip.blobs b.old.entries rows b.print;
  first = b.first;
  long = b.long;
  within = b.within;
}

module _ (homes : List Home) (older : AreOlder homes) (u : Update) (pair : List ℕ × Node) (head : Head) (k n next : ℕ)
    (b : Before (numbered homes) u pair head (rows_in u.tip pair.0) k (length homes)) (le : k ≤ n)
    (within : n ≤ length pair.1.entries) (count : next ≡ suc (length homes))
    (made_before : AtMost (length homes) (sources_of (input.First head))) where
  abbrev made : List Home
  made = (node_given u pair head k n next).homes

  pub given_older : AreOlder (grown homes made)
  given_older = older_grown homes made older
      (node_older (numbered homes) u pair head k n next (length homes) b le within count made_before)

  pub given_homed : RowsHomed (numbered (grown homes made)) pair.1 u.blobs pair.1.entries
      (node_given u pair head k n next).assigned.rows (input.First head)
  given_homed = node_homed (numbered (grown homes made)) u pair head k n next (length homes)
      (before_on (numbered homes) (numbered (grown homes made)) (extends_grown homes made) u pair head
      (rows_in u.tip pair.0) k (length homes) b)
      le within count
      (subst (λ x. Numbered (numbered (grown homes made)) x made) (sym count) (numbered_all homes made))

  pub given_long : length (node_given u pair head k n next).assigned.rows ≡ n
  given_long = sym (length-map (node_given u pair head k n next).assigned.rows (λ (r : Row).
      r.evaluation))
      ∙ node_evals (numbered homes) u pair head k n next (length homes) b le within count

  pub given_next : (node_given u pair head k n next).next ≡ suc (length (grown homes made))
  given_next =
      print_numbers pair.1 u.blobs pair.1.entries (evaluations (rows_in u.tip pair.0) k n next)
      (live_prints u.cancelled (rows_in u.tip pair.0) k) (next + (n - k))
      ∙ omega (
        arith,
        count,
        length_grown homes made,
        made_long (numbered homes) u pair head k n next (length homes) b le within count,
        length-append (drop k (eval_homes pair.1 u.blobs head (evaluations (rows_in u.tip pair.0) k n next)))
            (print_homes pair.1 u.blobs pair.1.entries (evaluations (rows_in u.tip pair.0) k n next)
            (live_prints u.cancelled (rows_in u.tip pair.0) k)),
      )
