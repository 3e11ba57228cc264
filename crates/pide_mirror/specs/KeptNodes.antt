-- What is kept of a node of a version (this project's own).
use Rattle.std.specs.Prelude.{◌≡◌, ℕ, List, slice_get, Some}
use Rattle.doc_nodes.specs.Aliases.{aliases_at}
use Rattle.doc_nodes.specs.declared.node.Node.{Node}
use Rattle.pide_base.specs.Ids.{IsId}
use Rattle.core_rules.specs.Shown.{PartShown}
use Rattle.mirror_rules.specs.Images.{Image}
use Rattle.mirror_rules.specs.Rows.{rows_of}
use Rattle.pide_mirror.specs.Kept.{told_rows}
use Rattle.pide_mirror.specs.declared.parts.KeptNode.{KeptNode}

-- the node at a place, with the rows and the aliases that it has in a version
pub record IsKeptNode (image : Image) (p : ℕ) (kept : KeptNode) : Type 0 where
  pub pair : List ℕ × Node
  pub stands : slice_get image.nodes p ≡ Some pair
  pub node : kept.node.now ≡ pair.1
  pub rows : rows_of image pair.0 ≡ told_rows kept.rows.now
  pub aliases : kept.aliases.now ≡ (aliases_at image.nodes p).pairs

-- a part's execution has an id
abbrev pub HasId : PartShown → Type 0
HasId part = IsId part.exec
