-- Which replies an editor doesn't expect, after what it sent and heard.
use Rattle.std.specs.Prelude.{ℕ, ◌==◌, Bool, true, false, not, ◌||◌, ◌&&◌, List, slice_get, Option, Some, None, Result, Ok, Err}
use Rattle.std.specs.List.{list_any}
use Rattle.message_values.specs.declared.editor_message.EditorMessage.TheVariants as asks
use Rattle.message_values.specs.declared.refusal.Refusal.{Refusal}
use Rattle.buffer_rules.specs.Preparing.{Buffer}
use Rattle.reply_messages.specs.declared.told.NodeRows.{NodeRows}
use Rattle.reply_messages.specs.declared.told.Told.{Told}
use Rattle.reply_messages.specs.declared.told.Told.TheVariants as tells
use Rattle.mirror_rules.specs.Images.{Mirror}
use Rattle.mirror_rules.specs.Rows.{is_unknown}
use Rattle.mirror_rules.specs.Reports.{belongs_in}
use Rattle.mirror_rules.specs.Updates.{buffer_after}
use Rattle.mirror_rules.specs.Answers.{Read, is_answer, can_answer, version_asked, version_told}

-- no message is unanswered that it could answer
abbrev pub answers_nothing : Option Read → Told → Bool
answers_nothing None told = is_answer told
answers_nothing (Some read) told = false

-- the first unanswered message has another reply
abbrev pub answers_another : Option Read → Told → Bool
answers_another None told = false
answers_another (Some read) told = is_answer told && not (can_answer read told)

-- both are there, and they differ
abbrev pub differ : Option ℕ → Option ℕ → Bool
differ (Some id) (Some other) = not (id == other)
differ id other = false

-- the first unanswered message names another version
abbrev pub names_another : Option Read → Told → Bool
names_another None told = false
names_another (Some read) told = differ (version_asked read) (version_told told)

-- no live version has a command to which the report belongs
abbrev pub belongs_nowhere : Mirror → Told → Bool
belongs_nowhere m (tells.Report part reports) = not (list_any
    (λ one. belongs_in (record { protocol = m.protocol; part = part; reports = reports })
    one.version) m.live)
belongs_nowhere m told = false

-- there is a reason to refuse the update
abbrev pub is_refused : Result Buffer Refusal → Bool
is_refused (Ok buffer) = false
is_refused (Err reason) = true

-- the reply assigns rows for an update that the editor's own document refuses
abbrev pub assigns_refused : Mirror → Option Read → Told → Bool
assigns_refused m (Some (Ok (asks.Update version items blobs))) (tells.Assign id listed) =
    is_refused (buffer_after m version (record { items = items; blobs = blobs }))
assigns_refused m read told = false

-- the update's nodes lack a node or a command that is listed
abbrev pub lists_unknown : List NodeRows → Result Buffer Refusal → Bool
lists_unknown listed (Ok buffer) = list_any (is_unknown buffer.nodes) listed
lists_unknown listed (Err reason) = false

-- the reply assigns rows to what the new version hasn't
abbrev pub assigns_unknown : Mirror → Option Read → Told → Bool
assigns_unknown m (Some (Ok (asks.Update version items blobs))) (tells.Assign id listed) =
    lists_unknown listed (buffer_after m version (record { items = items; blobs = blobs }))
assigns_unknown m read told = false

-- the reply is unexpected: it can't be read, or one of these holds
abbrev pub is_unexpected : Mirror → Option Told → Bool
is_unexpected m None = true
is_unexpected m (Some told) =
    let first = slice_get m.unanswered 0 in
    answers_nothing first told
    || answers_another first told
    || names_another first told
    || belongs_nowhere m told
    || assigns_refused m first told
    || assigns_unknown m first told
