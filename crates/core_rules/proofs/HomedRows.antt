-- Rows whose executions go by what stands beside them.
use Rattle.std.proofs.Common.{◌≡◌, ℕ, ◌≤◌, List, [], ◌∷◌, length, map, Option, Some, None, arith}
use Rattle.std.specs.Prelude.{⊤}
use Rattle.doc_nodes.specs.declared.node.Entry.{Entry}
use Rattle.doc_nodes.specs.declared.node.Node.{Node}
use Rattle.exec_rules.specs.declared.row.Row.{Row}
use Rattle.exec_rules.specs.declared.home.Input.{Input}
use Rattle.exec_rules.specs.declared.home.Input.TheVariants as input
use Rattle.exec_rules.specs.declared.home.Home.{Home}
use Rattle.exec_rules.specs.Kept.{BlobList}
use Rattle.exec_rules.specs.Homes.{home}

-- what a number goes by
abbrev pub Homes : Type 0
Homes = ℕ → Option Home

-- the evaluations of rows
abbrev pub evals : List Row → List ℕ
evals rows = map (λ row. row.evaluation) rows

module _ (at : Homes) (node : Node) (blobs : BlobList) where
  -- the evaluations of commands, of which the first takes up this
  abbrev pub EvalsHomed : List Entry → List ℕ → Input → Type 0
  EvalsHomed es [] i = ⊤
  EvalsHomed [] (v ∷ vs) i = ⊥
  EvalsHomed (e ∷ es) (v ∷ vs) i = (at v ≡ Some (home node blobs e i)) × EvalsHomed es vs (input.Next v)

  abbrev pub PrintHomed : Entry → ℕ → Option ℕ → Type 0
  PrintHomed e v None = ⊤
  PrintHomed e v (Some q) = at q ≡ Some (home node blobs e (input.Print v))

  abbrev pub PrintsHomed : List Entry → List Row → Type 0
  PrintsHomed es [] = ⊤
  PrintsHomed [] (r ∷ rs) = ⊥
  PrintsHomed (e ∷ es) (r ∷ rs) = PrintHomed e r.evaluation r.print × PrintsHomed es rs

-- the rows of a node that begins so
pub record RowsHomed (at : Homes) (node : Node) (blobs : BlobList) (es : List Entry) (rows : List Row)
    (i : Input) : Type 0 where
  pub evaluate : EvalsHomed at node blobs es (evals rows) i
  pub print : PrintsHomed at node blobs es rows

-- one has what the other has
abbrev pub Extends : Homes → Homes → Type 0
Extends at on = (e : ℕ) (h : Home) → at e ≡ Some h → on e ≡ Some h

module _ (at on : Homes) (more : Extends at on) (node : Node) (blobs : BlobList) where
  pub evals_on : (es : List Entry) (vs : List ℕ) (i : Input) → EvalsHomed at node blobs es vs i → EvalsHomed on node blobs es vs i
  evals_on es [] i all = tt
  evals_on [] (v ∷ vs) i all = all
  evals_on (e ∷ es) (v ∷ vs) i all = (more v _ all.0, evals_on es vs (input.Next v) all.1)

  print_on : (e : Entry) (v : ℕ) (o : Option ℕ) → PrintHomed at node blobs e v o → PrintHomed on node blobs e v o
  print_on e v None all = tt
  print_on e v (Some q) all = more q _ all

  pub prints_on : (es : List Entry) (rs : List Row) → PrintsHomed at node blobs es rs → PrintsHomed on node blobs es rs
  prints_on es [] all = tt
  prints_on [] (r ∷ rs) all = all
  prints_on (e ∷ es) (r ∷ rs) all = (print_on e r.evaluation r.print all.0, prints_on es rs all.1)

  pub rows_on : (es : List Entry) (rs : List Row) (i : Input) → RowsHomed at node blobs es rs i → RowsHomed on node blobs es rs i
  rows_on es rs i all =
      record { evaluate = evals_on es (evals rs) i all.evaluate; print = prints_on es rs all.print }

-- no more are assigned than there are commands
pub evals_long : (at : Homes) (node : Node) (blobs : BlobList) (es : List Entry) (vs : List ℕ) (i : Input)
    → EvalsHomed at node blobs es vs i → length vs ≤ length es
evals_long at node blobs es [] i all = omega arith
evals_long at node blobs [] (v ∷ vs) i all = absurd all
evals_long at node blobs (e ∷ es) (v ∷ vs) i all =
    let rest = evals_long at node blobs es vs (input.Next v) all.1 in omega arith
