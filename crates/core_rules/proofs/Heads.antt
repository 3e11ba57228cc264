-- How the node of an execution began, by what the execution goes by.
use Rattle.std.proofs.Common.{◌≡◌, ℕ, List, [], ◌∷◌, Option, Some, refl, subst, ◌∙◌}
use Rattle.doc_nodes.specs.declared.node.Entry.{Entry}
use Rattle.doc_nodes.specs.declared.node.Node.{Node}
use Rattle.exec_rules.specs.declared.key.Last.TheVariants.{Made}
use Rattle.exec_rules.specs.declared.row.Row.{Row}
use Rattle.exec_rules.specs.declared.home.Head.{Head}
use Rattle.exec_rules.specs.declared.home.Input.{Input}
use Rattle.exec_rules.specs.declared.home.Input.TheVariants as input
use Rattle.exec_rules.specs.declared.home.Home.{Home}
use Rattle.exec_rules.specs.Kept.{BlobList}
use Rattle.exec_rules.specs.Keys.{last_of}
use Rattle.exec_rules.specs.Homes.{home}
use Rattle.core_rules.specs.Numbered.{numbered}
use Rattle.core_rules.specs.Parts.{sources_of}
use Rattle.core_rules.proofs.Tables.{AreOlder, Same, among, table, table_at}
use Rattle.core_rules.proofs.HomedRows.{evals, EvalsHomed}

-- the head, by what is taken up
abbrev pub head_by : (ℕ → Option Head) → Input → Option Head
head_by f (input.First head) = Some head
head_by f (input.Next e) = f e
head_by f (input.Print e) = f e

abbrev pub head_step : (ℕ → Option Head) → Home → Option Head
head_step f h = head_by f h.input

head_local_by : (f g : ℕ → Option Head) (i : Input) → Same f g (sources_of i) → head_by f i ≡ head_by g i
head_local_by f g (input.First head) same = refl
head_local_by f g (input.Next e) same = same.0
head_local_by f g (input.Print e) same = same.0

head_local : (f g : ℕ → Option Head) (h : Home) → Same f g (sources_of h.input) → head_step f h ≡ head_step g h
head_local f g h same = head_local_by f g h.input same

-- how the node of an execution began
abbrev pub head_of : List Home → ℕ → Option Head
head_of homes e = among (table head_step homes) e

module _ (homes : List Home) (older : AreOlder homes) where
  pub head_at : (e : ℕ) (h : Home) → numbered homes e ≡ Some h → head_of homes e ≡ head_by (head_of homes) h.input
  head_at e h at = table_at head_step head_local homes e h older at

  -- a node's last evaluation has the head of its first
  pub last_head : (node : Node) (blobs : BlobList) (head : Head) (es : List Entry) (rs : List Row) (i : Input) (e : ℕ)
      → EvalsHomed (numbered homes) node blobs es (evals rs) i → head_by (head_of homes) i ≡ Some head
      → last_of es rs ≡ Made e → head_of homes e ≡ Some head
  last_head node blobs head [] rs i e all first last = absurd (cc)
  last_head node blobs head (x ∷ es) [] i e all first last = absurd (cc)
  last_head node blobs head (x ∷ []) (r ∷ rs) i e all first last =
      let same : r.evaluation ≡ e = cc in
      subst (λ n. head_of homes n ≡ Some head) same (head_at r.evaluation (home node blobs x i) all.0 ∙ first)
  last_head node blobs head (x ∷ y ∷ es) (r ∷ rs) i e all first last =
      last_head node blobs head (y ∷ es) rs (input.Next r.evaluation) e all.1
      (head_at r.evaluation (home node blobs x i) all.0 ∙ first) last
