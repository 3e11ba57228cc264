-- Snapshots, and the replies to them by what an editor knows (this project's own).
use Rattle.std.specs.Prelude.{◌≢◌, ℕ, List, Result, Ok}
use Rattle.text_edits.specs.declared.edit.Edit.{Edit}
use Rattle.message_values.specs.declared.editor_message.EditorMessage.{EditorMessage}
use Rattle.message_values.specs.declared.editor_message.EditorMessage.TheVariants as asks
use Rattle.message_values.specs.declared.protocol.Protocol.{Protocol}
use Rattle.message_values.specs.declared.refusal.Refusal.{Refusal}
use Rattle.buffer_rules.specs.Trying.{◌>>=◌}
use Rattle.buffer_rules.specs.Texts.{edit_all}
use Rattle.reply_messages.specs.declared.told.Told.{Told}
use Rattle.reply_messages.specs.declared.told.Told.TheVariants as tells
use Rattle.session_rules.specs.Shown.{protocol_reports}
use Rattle.document_session.specs.session_replies_below.Spelling.{reply_spelling}
use Rattle.mirror_rules.specs.Images.{Mirror}
use Rattle.mirror_rules.specs.Looking.{View, view_in}
use Rattle.pide_mirror.specs.Looking.{node_in}

-- what was read is no snapshot
abbrev pub IsNoLook : Result EditorMessage Refusal → Type 0
IsNoLook read = (version : ℕ) (node : List ℕ) (edits : List Edit)
    → read ≢ Ok (asks.Snapshot version node edits)

-- the text of a node in a version, behind pending edits
abbrev pub text_in : ℕ → List ℕ → List Edit → Mirror → Result (List ℕ) Refusal
text_in version name edits m = node_in version name m >>= λ node. edit_all edits node.0

-- the reply that tells what is seen of a node, whose text this is behind pending edits
abbrev pub markup_told : Protocol → ℕ → List ℕ → View → List ℕ → Told
markup_told protocol version name view text = tells.Markup version name
    (protocol_reports protocol text view.reports) view.pending view.outdated

-- the same where the text can be had
abbrev pub markup_with : Protocol → ℕ → List ℕ → List Edit → View → Mirror → Result Told Refusal
markup_with protocol version name edits view m =
    text_in version name edits m >>= λ text. Ok (markup_told protocol version name view text)

-- the reply to a snapshot of it
abbrev pub markup_in : Protocol → ℕ → List ℕ → List Edit → Mirror → Result Told Refusal
markup_in protocol version name edits m =
    view_in m version name edits >>= λ view. markup_with protocol version name edits view m

-- a reply's bytes
abbrev pub in_bytes : Result Told Refusal → Result (List ℕ) Refusal
in_bytes told = told >>= λ reply. Ok (reply_spelling reply)
