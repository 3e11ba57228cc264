-- Messages that change nothing but that they came, and what is answered to them (this project's
-- own).
use Rattle.std.specs.Prelude.{◌≡◌, ℕ, List, Some, Result, Ok, Err}
use Rattle.text_edits.specs.declared.edit.Edit.{Edit}
use Rattle.doc_nodes.specs.declared.node.Node.{Node}
use Rattle.core_tables.specs.Live.{version_of}
use Rattle.exec_rules.specs.declared.version.Version.{Version}
use Rattle.language.specs.Lang.{Lang}
use Rattle.message_values.specs.declared.editor_message.EditorMessage.{EditorMessage}
use Rattle.message_values.specs.declared.editor_message.EditorMessage.TheVariants as asks
use Rattle.message_values.specs.declared.refusal.Refusal.{Refusal}
use Rattle.buffer_rules.specs.Texts.{edit_all}
use Rattle.core_rules.specs.Updates.{node_in}
use Rattle.editor_buffer.specs.declared.fault.PrepareError.{PrepareError}
use Rattle.editor_buffer.specs.declared.fault.PrepareError.TheVariants.{Refused, NoMemory}
use Rattle.session_rules.specs.declared.service.Service.{Service}
use Rattle.session_rules.specs.Session.{Session, document}
use Rattle.session_rules.specs.Accepting.{taken}
use Rattle.session_rules.specs.Alone.{IsUnsettled}
use Rattle.session_rules.specs.Legal.{awaited_of}
use Rattle.keeping_rules.specs.session_replies_below.Edited.{PlacesFit}
use Rattle.keeping_rules.specs.Looks.{IsLook}
use Rattle.document_session.specs.declared.looking.Settling.{Settling}
use Rattle.document_session.specs.declared.looking.Settling.TheVariants as settling

-- a live version has this node with this text
pub record IsFound {S : Type 0} (l : Lang S) (s : Session) (id : ℕ) (name : List ℕ)
    (text : List ℕ) : Type 0 where
  pub version : Version
  pub live : version_of (document l s).live id ≡ Some version
  pub node : Node
  pub stands : node_in version name ≡ Some node
  pub text_is : text ≡ node.text

-- it has, and this is the text behind the edits
pub record IsSeen {S : Type 0} (l : Lang S) (s : Session) (id : ℕ) (name : List ℕ)
    (edits : List Edit) (text : List ℕ) : Type 0 where
  pub before : List ℕ
  pub found : IsFound l s id name before
  pub edited : edit_all edits before ≡ Ok text
  pub fits : PlacesFit edits before

-- a node is found with its text, or a snapshot of it is refused
abbrev pub FoundSo : {S A : Type 0} → Lang S → Service → Session → ℕ → List ℕ → (A → List ℕ)
    → Result A Refusal → Type 0
FoundSo l service s id name view (Ok text) = IsFound l s id name (view text)
FoundSo l service s id name view (Err reason) = (edits : List Edit)
    → taken l service s (Ok (asks.Snapshot id name edits)) ≡ Err reason

-- a message that only looks has this reply, or is refused, but for want of memory
abbrev pub LookedSo : {S A : Type 0} → Lang S → Service → Session → EditorMessage → (A → List ℕ)
    → Result A PrepareError → Type 0
LookedSo l service s message bytes (Ok reply) = IsLook l service s (Ok message) (bytes reply)
LookedSo l service s message bytes (Err (Refused reason)) =
    taken l service s (Ok message) ≡ Err reason
LookedSo l service s message bytes (Err NoMemory) = Unit {0}

-- a settle waits for its version, is refused, or has this reply
abbrev pub SettlesSo : {S : Type 0} → Lang S → Service → Session → ℕ → Settling → Type 0
SettlesSo l service s id settling.Waits = (version : Version)
    × (awaited_of l service s (Ok (asks.Settle id)) ≡ Some version) × IsUnsettled l s version
SettlesSo l service s id (settling.Refused reason) =
    taken l service s (Ok (asks.Settle id)) ≡ Err reason
SettlesSo l service s id (settling.Told reply) =
    IsLook l service s (Ok (asks.Settle id)) reply.items
