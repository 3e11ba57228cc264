-- Which reply answers which message.
use Rattle.std.specs.Prelude.{ℕ, Bool, true, false, Option, Some, None, Result, Ok}
use Rattle.message_values.specs.declared.editor_message.EditorMessage.{EditorMessage}
use Rattle.message_values.specs.declared.editor_message.EditorMessage.TheVariants as asks
use Rattle.message_values.specs.declared.refusal.Refusal.{Refusal}
use Rattle.reply_messages.specs.declared.told.Told.{Told}
use Rattle.reply_messages.specs.declared.told.Told.TheVariants as tells

-- what was sent, as it is read: what it asks, or why its chunks are refused
abbrev pub Read : Type 0
Read = Result EditorMessage Refusal

-- the reply answers a message: it tells neither what a part reported nor that one was dropped
abbrev pub is_answer : Told → Bool
is_answer (tells.Report part reports) = false
is_answer (tells.Dropped part) = false
is_answer told = true

-- the reply is the message's own, or says that it is refused
abbrev pub can_answer : Read → Told → Bool
can_answer read (tells.Refused reason) = true
can_answer (Ok (asks.Update version items blobs)) (tells.Assign id listed) = true
can_answer (Ok (asks.Snapshot version node edits)) (tells.Markup id name rs pending outdated) = true
can_answer (Ok (asks.Cancel exec)) (tells.Cancelled e) = true
can_answer (Ok (asks.Cancel exec)) (tells.Idle e) = true
can_answer (Ok (asks.RemoveVersions versions)) (tells.Removed ids) = true
can_answer (Ok (asks.Settle version)) (tells.Settled id stuck) = true
can_answer (Ok (asks.Protocol protocol)) (tells.Protocol told) = true
can_answer (Ok (asks.Claim worker)) (tells.Claimed w part) = true
can_answer read told = false

-- the version that a message is about, where its reply names it again
abbrev pub version_asked : Read → Option ℕ
version_asked (Ok (asks.Update version items blobs)) = Some version
version_asked (Ok (asks.Snapshot version node edits)) = Some version
version_asked (Ok (asks.Settle version)) = Some version
version_asked read = None

-- the version that an assignment, a snapshot or a settle names
abbrev pub version_told : Told → Option ℕ
version_told (tells.Assign version listed) = Some version
version_told (tells.Markup version node reports pending outdated) = Some version
version_told (tells.Settled version stuck) = Some version
version_told told = None
