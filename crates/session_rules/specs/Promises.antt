-- What each message of a history is answered, in the words of the document from nothing (this
-- project's own).
use Rattle.std.specs.Prelude.{◌≡◌, ℕ, ◌≤◌, Bool, true, false, is_some, List, [], ◌∷◌, length, slice_get, ⊤, Some, Result, Ok}
use Rattle.std.specs.List.{flat_map, list_all}
use Rattle.text_words.specs.Members.{has}
use Rattle.text_edits.specs.declared.edit.Edit.{Edit}
use Rattle.report_markup.specs.Sorting.{ordered_reports}
use Rattle.snapshots.specs.Converted.{left_by}
use Rattle.doc_nodes.specs.declared.node.Node.{Node}
use Rattle.doc_nodes.specs.Wanted.{wanted_at}
use Rattle.exec_rules.specs.declared.version.Version.{Version}
use Rattle.language.specs.Lang.{Lang}
use Rattle.message_values.specs.declared.editor_message.EditorMessage.{EditorMessage}
use Rattle.message_values.specs.declared.editor_message.EditorMessage.TheVariants as asks
use Rattle.message_values.specs.declared.item.Item.{Item}
use Rattle.message_values.specs.declared.item.BlobChange.{BlobChange}
use Rattle.message_values.specs.declared.refusal.Refusal.{Refusal}
use Rattle.reply_messages.specs.declared.told.Told.{Told}
use Rattle.reply_messages.specs.declared.told.Told.TheVariants as tells
use Rattle.core_rules.specs.Assigned.{assigns}
use Rattle.core_rules.specs.FromScratch.{assigned_to}
use Rattle.core_rules.specs.Shown.{PartShown, parts_shown, pending, scratch_shown}
use Rattle.session_rules.specs.declared.service.Service.{Service}
use Rattle.session_rules.specs.Heard.{Heard, Message}
use Rattle.session_rules.specs.Session.{Session, document}
use Rattle.session_rules.specs.Looking.{Looked, looked_at}
use Rattle.session_rules.specs.Accepting.{accepted}
use Rattle.session_rules.specs.History.{session}
use Rattle.session_rules.specs.Shown.{placed_reports, protocol_reports}
use Rattle.session_rules.specs.Replies.{is_outdated, entry_replies}
use Rattle.session_rules.specs.Keeping.{KeepsFront}

-- of each message of a history, behind the entries before it
abbrev pub EachMessage : (List Heard → Result EditorMessage Refusal → Type 0) → List Heard → Type 0
EachMessage P [] = ⊤
EachMessage P (Message read ∷ h) = EachMessage P h × P h read
EachMessage P (other ∷ h) = EachMessage P h

-- the parts of the executions that the version assigns in the node, with the reports of those that
-- are finished, are those of checking the version from nothing; they are told at their places as
-- the pending edits leave them, and each assigned execution with an unfinished part is told as
-- pending
pub record IsShown {S : Type 0} (l : Lang S) (s : Session) (id : ℕ) (name : List ℕ)
    (edits : List Edit) (looked : Looked) (reply : List Told) : Type 0 where
  pub scratch : parts_shown l s.events (document l s) looked.version name
      ≡ scratch_shown l s.events looked.version name
  pub told : reply ≡ tells.Markup id name
      (protocol_reports s.protocol looked.text (ordered_reports (left_by edits
      (flat_map placed_reports (parts_shown l s.events (document l s) looked.version name)))))
      (pending l s.events (document l s) looked.version name) (is_outdated edits) ∷ []

-- so is each snapshot that isn't refused
abbrev pub ShowsSo : {S : Type 0} → Lang S → Service → List Heard → Result EditorMessage Refusal
    → Type 0
ShowsSo l service h read = (id : ℕ) (name : List ℕ) (edits : List Edit) (looked : Looked)
    → read ≡ Ok (asks.Snapshot id name edits)
    → looked_at l (session l service h) id name edits ≡ Ok looked
    → IsShown l (session l service h) id name edits looked
    (entry_replies l service h (Message read))

-- each of the parts is finished
abbrev pub are_all_shown : List PartShown → Bool
are_all_shown parts = list_all (λ part. is_some part.reports) parts

-- where nothing of a snapshot is pending, all parts of assigned executions are shown
abbrev pub ExactSo : {S : Type 0} → Lang S → Service → List Heard → Result EditorMessage Refusal
    → Type 0
ExactSo l service h read = (id : ℕ) (name : List ℕ) (edits : List Edit) (looked : Looked)
    → read ≡ Ok (asks.Snapshot id name edits)
    → looked_at l (session l service h) id name edits ≡ Ok looked
    → pending l (session l service h).events (document l (session l service h)) looked.version name
    ≡ [] → are_all_shown (parts_shown l (session l service h).events
    (document l (session l service h)) looked.version name) ≡ true

-- the version has an evaluation for each command that its nodes want
abbrev pub IsCovered : Version → Type 0
IsCovered version = (p : ℕ) (pair : List ℕ × Node) → slice_get version.nodes p ≡ Some pair
    → wanted_at version.nodes p ≤ length (assigned_to version p).rows

-- so has that of each update that isn't refused
abbrev pub CoversSo : {S : Type 0} → Lang S → Service → List Heard → Result EditorMessage Refusal
    → Type 0
CoversSo l service h read = (id : ℕ) (items : List Item) (blobs : List BlobChange)
    (after : Session) → read ≡ Ok (asks.Update id items blobs)
    → accepted l service (session l service h) (asks.Update id items blobs) ≡ Ok after
    → IsCovered (document l after).tip

-- the version assigns nothing that was cancelled before it
abbrev pub LeavesCancelled : {S : Type 0} → Lang S → Service → List Heard
    → Result EditorMessage Refusal → Type 0
LeavesCancelled l service h read = (id : ℕ) (items : List Item) (blobs : List BlobChange)
    (after : Session) (e : ℕ) → read ≡ Ok (asks.Update id items blobs)
    → accepted l service (session l service h) (asks.Update id items blobs) ≡ Ok after
    → has (document l (session l service h)).cancelled e ≡ true
    → assigns (document l after).tip e ≡ false

-- each of its nodes keeps the executions of a front of its commands, and no others
abbrev pub KeepsSo : {S : Type 0} → Lang S → Service → List Heard → Result EditorMessage Refusal
    → Type 0
KeepsSo l service h read = (id : ℕ) (items : List Item) (blobs : List BlobChange)
    (after : Session) (p : ℕ) (pair : List ℕ × Node) → read ≡ Ok (asks.Update id items blobs)
    → accepted l service (session l service h) (asks.Update id items blobs) ≡ Ok after
    → slice_get (document l after).tip.nodes p ≡ Some pair
    → KeepsFront (document l (session l service h)) (document l after).tip p pair
