-- Which versions an update may make: what the editor's side keeps (this project's own).
use Rattle.std.specs.Prelude.{◌≡◌, ℕ, zero, ◌<◌, ◌≤◌, ◌⊎◌, false, List, [], ◌∷◌, length, slice_get, ⊤, Option, Some, None}
use Rattle.std.specs.Option.{option_map, option_and_then}
use Rattle.std.specs.List.{AllByRecursion}
use Rattle.text_words.specs.Pieces.{text_between}
use Rattle.text_words.specs.Members.{has}
use Rattle.shared_map.specs.Pairs.{IsSorted}
use Rattle.pide_base.specs.Ids.{id_end}
use Rattle.pide_base.specs.Limits.{most_nodes, most_scalars}
use Rattle.doc_nodes.specs.declared.node.Entry.{Entry}
use Rattle.doc_nodes.specs.declared.node.Node.{Node}
use Rattle.doc_nodes.specs.Names.{in_order}
use Rattle.doc_nodes.specs.Imports.{NodeList, place_of}
use Rattle.exec_rules.specs.declared.version.Version.{Version}
use Rattle.exec_rules.specs.Kept.{BlobList}
use Rattle.core_rules.specs.Assigned.{command_ids}
use Rattle.core_rules.specs.Doc.{Doc, assignment_of}

-- no number comes twice
abbrev pub AllDiffer : List ℕ → Type 0
AllDiffer [] = ⊤
AllDiffer (x ∷ xs) = (has xs x ≡ false) × AllDiffer xs

-- the node of a name
abbrev pub node_in : Version → List ℕ → Option Node
node_in version name = option_map (λ pair. pair.1)
    (option_and_then (slice_get version.nodes) (place_of version.nodes name))

-- a command's source
abbrev pub source_in : Node → Entry → List ℕ
source_in node e = text_between node.text e.range.start e.range.stop

-- commands stand in a text of so many scalars from a place on, one behind the other
abbrev pub AreRising : ℕ → ℕ → List Entry → Type 0
AreRising from len [] = from ≤ len
AreRising from len (e ∷ es) = (from ≤ e.range.start) × (e.range.start ≤ e.range.stop)
    × AreRising e.range.stop len es

-- a command of a node is one of the old node, with the same source
pub record Stood (old node : Node) (e : Entry) : Type 0 where
  pub place : ℕ
  pub before : Entry
  pub stood : slice_get old.entries place ≡ Some before
  pub command : e.command ≡ before.command
  pub source : source_in node e ≡ source_in old before

-- the tip's node, where there is one, had the command
abbrev pub IsOld : Option Node → Node → Entry → Type 0
IsOld None node e = ⊥
IsOld (Some old) node e = Stood old node e

-- a command's id is above all before, or the tip's node had the command
abbrev pub IsKnown : Doc → List ℕ × Node → Entry → Type 0
IsKnown d pair e = (d.commands < e.command) ⊎ IsOld (node_in d.tip pair.0) pair.1 e

-- both nodes begin with the same command only where they have the same header
abbrev pub HaveHeader : Node → Node → Type 0
HaveHeader node old = (e b : Entry) → slice_get node.entries zero ≡ Some e
    → slice_get old.entries zero ≡ Some b → e.command ≡ b.command
    → (node.imports ≡ old.imports) × (node.keywords ≡ old.keywords)

-- so for the tip's node, where there is one
abbrev pub KeepsHeader : Node → Option Node → Type 0
KeepsHeader node None = ⊤
KeepsHeader node (Some old) = HaveHeader node old

-- a node of the new version
pub record FitsNode (d : Doc) (pair : List ℕ × Node) : Type 0 where
  pub text : length pair.1.text ≤ most_scalars
  pub commands : AreRising 0 (length pair.1.text) pair.1.entries
  pub known : AllByRecursion (IsKnown d pair) pair.1.entries
  pub header : KeepsHeader pair.1 (node_in d.tip pair.0)
  pub bare : pair.1.entries ≡ [] → (pair.1.imports ≡ []) × (pair.1.keywords ≡ [])

-- an update to this version, these nodes and blobs is accepted
pub record FitsUpdate (d : Doc) (id : ℕ) (nodes : NodeList) (blobs : BlobList) : Type 0 where
  pub newer : d.last < id
  pub names : IsSorted in_order nodes
  pub count : length nodes ≤ most_nodes
  pub nodes_fit : AllByRecursion (FitsNode d) nodes
  pub commands : AllDiffer (command_ids nodes)
  pub numbers : (assignment_of d nodes blobs).next ≤ id_end
