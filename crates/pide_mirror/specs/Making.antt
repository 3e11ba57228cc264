-- The rows that an update makes of a reply's and the tip's (this project's own).
use Rattle.std.specs.Prelude.{◌≡◌, ℕ, Bool, true, false, List, [], slice_get, Option, Some, None}
use Rattle.std.specs.Borrow.{Bor}
use Rattle.std.specs.Option.{option_and_then, option_map_or}
use Rattle.shared_map.specs.Pairs.{found}
use Rattle.doc_nodes.specs.declared.node.Node.{Node}
use Rattle.doc_nodes.specs.Names.{in_order}
use Rattle.doc_nodes.specs.Imports.{NodeList, place_of}
use Rattle.buffer_rules.specs.Nodes.{AreKept}
use Rattle.core_rules.specs.Assigned.{command_ids}
use Rattle.core_rules.specs.Updates.{AllDiffer}
use Rattle.reply_messages.specs.declared.told.CommandRow.{CommandRow}
use Rattle.reply_messages.specs.declared.told.NodeRows.{NodeRows}
use Rattle.mirror_rules.specs.Images.{Image}
use Rattle.mirror_rules.specs.Rows.{rows_by}
use Rattle.pide_mirror.specs.Kept.{told_rows}
use Rattle.pide_mirror.specs.Listing.{listed_at}
use Rattle.pide_mirror.specs.Places.{HaveSources}
use Rattle.pide_mirror.specs.declared.known.Known.{Known}
use Rattle.pide_mirror.specs.declared.renewing.NewRows.{NewRows}

-- the rows that are kept of the node of a name
abbrev pub tip_rows : Known → List ℕ → Option (List CommandRow)
tip_rows tip name = option_and_then (slice_get tip.rows) (place_of tip.nodes name)

-- there is a mark at the place
abbrev pub is_marked : List Bool → ℕ → Bool
is_marked marks place = option_map_or (λ mark. mark) (slice_get marks place) false

-- the rows to choose from: those of a list, or else of the tip
abbrev pub rows_from : Option NodeRows → Option (List CommandRow) → List CommandRow
rows_from (Some listed) rows = listed.rows
rows_from None rows = option_map_or (λ rows. rows) rows []

-- a node's rows are the tip's, where it is marked and nothing is listed of it, or else are chosen
pub record IsMadeBy (tip : Known) (marked : Bool) (listed : Option NodeRows)
    (pair : List ℕ × Node) (new : NewRows) : Type 0 where
  pub stays : new.stays ≡ true → (marked ≡ true) × (listed ≡ None)
      × (tip_rows tip pair.0 ≡ Some new.rows)
  pub changes : new.stays ≡ false → told_rows new.rows
      ≡ rows_by pair.1.entries (told_rows (rows_from listed (tip_rows tip pair.0)))

-- so for each node
abbrev pub AreMadeBy : Known → List Bool → List (ℕ × Bor NodeRows) → NodeList → List NewRows
    → Type 0
AreMadeBy tip marks listing nodes made = (p : ℕ) (pair : List ℕ × Node)
    → slice_get nodes p ≡ Some pair → (new : NewRows) × (slice_get made p ≡ Some new)
    × IsMadeBy tip (is_marked marks p) (listed_at listing p) pair new

-- nodes that an update of a version may make: marked ones are the version's, commands that stay
-- have their sources still, and no two have one id
pub record FitsTip (image : Image) (marks : List Bool) (nodes : NodeList) : Type 0 where
  pub kept : AreKept image.nodes marks nodes
  pub sources : HaveSources image.nodes nodes
  pub differ : AllDiffer (command_ids nodes)
