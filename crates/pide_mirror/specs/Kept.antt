-- How versions are kept (this project's own).
use Rattle.std.specs.Prelude.{◌≡◌, ℕ, List, [], map, slice_get, Some, None}
use Rattle.std.specs.List.{AllZip}
use Rattle.shared_map.specs.Pairs.{IsSorted}
use Rattle.core_tables.specs.declared.versions.Live.{Live}
use Rattle.doc_nodes.specs.declared.node.Node.{Node}
use Rattle.doc_nodes.specs.Names.{in_order}
use Rattle.doc_nodes.specs.Imports.{place_of}
use Rattle.exec_rules.specs.Listed.{Told}
use Rattle.core_rules.specs.Assigned.{command_ids}
use Rattle.core_rules.specs.Updates.{AllDiffer}
use Rattle.reply_messages.specs.declared.told.CommandRow.{CommandRow}
use Rattle.mirror_rules.specs.Images.{Image}
use Rattle.mirror_rules.specs.Rows.{rows_of}
use Rattle.pide_mirror.specs.InForce.{AreInForce}
use Rattle.pide_mirror.specs.Places.{ArePlaced, AreThere}
use Rattle.pide_mirror.specs.Tables.{table_of}
use Rattle.pide_mirror.specs.declared.known.Known.{Known}
use Rattle.pide_mirror.specs.declared.known.LiveVersion.{LiveVersion}

-- the rows of a node as they are told
abbrev pub told_rows : List CommandRow → List Told
told_rows rows = map (λ row. (row.command, row.executions)) rows

-- what is kept stands for an image: its nodes, with a row for each command in the order of their
-- places and no other rows, the aliases in force in them, and the commands that have executions
pub record IsKept (known : Known) (image : Image) : Type 0 where
  pub nodes : known.nodes ≡ image.nodes
  pub sorted : IsSorted in_order image.nodes
  pub differ : AllDiffer (command_ids image.nodes)
  pub rows : (p : ℕ) (pair : List ℕ × Node) → slice_get image.nodes p ≡ Some pair
      → (rows : List CommandRow) × (slice_get known.rows p ≡ Some rows)
      × (rows_of image pair.0 ≡ told_rows rows)
  pub aligned : (p : ℕ) (pair : List ℕ × Node) → slice_get image.nodes p ≡ Some pair
      → map (λ row. row.0) (rows_of image pair.0) ≡ map (λ e. e.command) pair.1.entries
  pub others : (name : List ℕ) → place_of image.nodes name ≡ None → rows_of image name ≡ []
  pub aliases : AreInForce image.nodes known.aliases
  pub places : ArePlaced (table_of known.places) image
  pub there : AreThere (table_of known.places) image

-- so for each live version
abbrev pub AreKept : List LiveVersion → List (Live Image) → Type 0
AreKept kept live = AllZip (λ one other. (one.id ≡ other.id) × IsKept one.known other.version) kept live
