-- Which values a message can have.
use Rattle.std.specs.Prelude.{◌≡◌, true, IfSome}
use Rattle.std.specs.List.{AllByRecursion}
use Rattle.pide_base.specs.Ids.{IsId}
use Rattle.pide_base.specs.NodeName.{is_node_name}
use Rattle.message_values.specs.FitsShapes.{IsText, FitsRange, FitsEdit}
use Rattle.message_values.specs.declared.editor_message.EditorMessage.{EditorMessage}
use Rattle.message_values.specs.declared.editor_message.EditorMessage.TheVariants as asks
use Rattle.message_values.specs.declared.item.Perspective.{Perspective}
use Rattle.message_values.specs.declared.item.Change.{Change}
use Rattle.message_values.specs.declared.item.Change.TheVariants.{Edit, Close}
use Rattle.message_values.specs.declared.item.Item.{Item}
use Rattle.message_values.specs.declared.item.BlobChange.{BlobChange}
use Rattle.message_values.specs.Workers.{IsWorker}

-- a perspective with ranges of short numbers
abbrev pub FitsPerspective : Perspective → Type 0
FitsPerspective p = AllByRecursion FitsRange p.ranges

-- edits that fit, and such a perspective
abbrev pub FitsChange : Change → Type 0
FitsChange (Edit edits perspective) =
    AllByRecursion FitsEdit edits × IfSome perspective FitsPerspective
FitsChange Close = Unit {0}

-- a node's name, and what may become of it
pub record FitsItem (i : Item) : Type 0 where
  pub node : is_node_name i.node ≡ true
  pub change : FitsChange i.change

-- a blob's name, and a text
pub record FitsBlob (b : BlobChange) : Type 0 where
  pub name : is_node_name b.name ≡ true
  pub text : IfSome b.text IsText

-- ids, names, places and texts are such as their types have
abbrev pub Fits : EditorMessage → Type 0
Fits (asks.Update version items blobs) =
    IsId version × AllByRecursion FitsItem items × AllByRecursion FitsBlob blobs
Fits (asks.Snapshot version node edits) =
    IsId version × (is_node_name node ≡ true) × AllByRecursion FitsEdit edits
Fits (asks.Cancel exec) = IsId exec
Fits (asks.RemoveVersions versions) = AllByRecursion IsId versions
Fits (asks.Settle version) = IsId version
Fits (asks.Protocol protocol) = Unit {0}
Fits (asks.Claim worker) = IsWorker worker
Fits (asks.Finish worker) = IsWorker worker
Fits (asks.Theory node text) = (is_node_name node ≡ true) × IsText text
