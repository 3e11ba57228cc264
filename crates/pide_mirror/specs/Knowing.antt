-- What is kept of what an editor knows (this project's own).
use Rattle.std.specs.Prelude.{◌≡◌, ℕ, Bool, true, not, ◌||◌, List, Some, Ok}
use Rattle.pide_base.specs.declared.part.Part.{Part}
use Rattle.report_markup.specs.declared.report.Report.{Report}
use Rattle.core_rules.specs.Assigned.{command_ids}
use Rattle.buffer_laws.specs.Known.{AreBelow}
use Rattle.buffer_rules.specs.Updates.{Asked}
use Rattle.editor_buffer.specs.Preparation.{Preparation}
use Rattle.message_values.specs.declared.item.Item.{Item}
use Rattle.message_values.specs.declared.item.BlobChange.{BlobChange}
use Rattle.reply_messages.specs.declared.told.NodeRows.{NodeRows}
use Rattle.reply_messages.specs.declared.told.Told.{Told}
use Rattle.mirror_rules.specs.Answers.{Read}
use Rattle.mirror_rules.specs.Images.{Mirror}
use Rattle.mirror_rules.specs.Reports.{PartReport}
use Rattle.mirror_rules.specs.Unexpected.{is_refused, lists_unknown, assigns_refused, assigns_unknown}
use Rattle.mirror_rules.specs.Updates.{after_update, buffer_after}
use Rattle.pide_mirror.specs.Kept.{IsKept, AreKept}
use Rattle.pide_mirror.specs.Making.{FitsTip}
use Rattle.pide_mirror.specs.declared.document.Document.{Document}
use Rattle.pide_mirror.specs.declared.going.Going.{Going}

-- a document stands for what an editor knows, but for messages that are unanswered
pub record IsDocument (document : Document) (m : Mirror) : Type 0 where
  pub buffer : document.buffer ≡ m.buffer
  pub live : AreKept document.live.items m.live
  pub tip : IsKept document.tip m.tip
  pub last : document.last ≡ m.last
  pub protocol : document.protocol ≡ m.protocol
  pub nodes : m.tip.nodes ≡ m.buffer.nodes
  pub below : AreBelow m.buffer.next (command_ids m.buffer.nodes)

-- so with these
pub record IsGoing (going : Going) (m : Mirror) : Type 0 where
  pub document : IsDocument going.document m
  pub unanswered : going.unanswered.items ≡ m.unanswered

-- a report as it is told to an editor
abbrev pub part_report : Mirror → Part → List Report → PartReport
part_report m part reports = record { protocol = m.protocol; part = part; reports = reports }

-- what an update asks
abbrev pub asked_of : List Item → List BlobChange → Asked
asked_of items blobs = record { items = items; blobs = blobs }

-- an update that is prepared is the editor's, and its version can be made of the tip's
pub record FitsUpdate (m : Mirror) (id : ℕ) (asked : Asked) (update : Preparation) : Type 0 where
  pub prepared : buffer_after m id asked ≡ Ok update.after
  pub fits : FitsTip m.tip update.untouched update.after.nodes
  pub below : AreBelow update.after.next (command_ids update.after.nodes)

-- the reply of a message's kind assigns what it can't
abbrev pub is_wrong : Mirror → Read → Told → Bool
is_wrong m read told = assigns_refused m (Some read) told || assigns_unknown m (Some read) told

-- an update is assigned these rows just where that is expected, and then they are taken
pub record AssignsSo (m : Mirror) (id : ℕ) (asked : Asked) (listed : List NodeRows)
    (expected : Bool) (new : Document) : Type 0 where
  pub expected_is : expected ≡ not (is_refused (buffer_after m id asked)
      || lists_unknown listed (buffer_after m id asked))
  pub known : expected ≡ true
      → IsDocument new (after_update m id listed (buffer_after m id asked))
