-- What a message makes of a session, or why it is refused (this project's own).
use Rattle.std.specs.Prelude.{if◌then◌else◌, Result, Ok, Err}
use Rattle.language.specs.Lang.{Lang}
use Rattle.message_values.specs.declared.editor_message.EditorMessage.{EditorMessage}
use Rattle.message_values.specs.declared.editor_message.EditorMessage.TheVariants as asks
use Rattle.message_values.specs.declared.refusal.Refusal.{Refusal}
use Rattle.message_values.specs.declared.refusal.Refusal.TheVariants.{UnknownFunction, ProtocolFixed}
use Rattle.buffer_laws.specs.buffer_rules_below.Trying.{◌>>=◌}
use Rattle.session_rules.specs.declared.service.Service.{Service}
use Rattle.session_rules.specs.Session.{Session}
use Rattle.session_rules.specs.Updating.{updated_session, cancelled, removed}
use Rattle.session_rules.specs.Looking.{looked_at, settles, claims, finishes}

-- the session after a message, or why it is refused. Theories of a build are no message of a
-- session's: no service has this function
abbrev pub accepted : {S : Type 0} → Lang S → Service → Session → EditorMessage
    → Result Session Refusal
accepted l service s (asks.Update version items blobs) =
    updated_session l s version (record { items = items; blobs = blobs })
accepted l service s (asks.Snapshot version node edits) =
    looked_at l s version node edits >>= λ looked. Ok s
accepted l service s (asks.Cancel exec) = cancelled l s exec
accepted l service s (asks.RemoveVersions versions) = removed l s versions
accepted l service s (asks.Settle version) = settles l service s version >>= λ settling. Ok s
accepted l service s (asks.Protocol protocol) =
    if s.called then Err ProtocolFixed else Ok (record s { protocol = protocol })
accepted l service s (asks.Claim w) = claims l s w
accepted l service s (asks.Finish w) = finishes s w
accepted l service s (asks.Theory node text) = Err UnknownFunction

-- the session after what was read, or the first reason for which it is refused
abbrev pub taken : {S : Type 0} → Lang S → Service → Session → Result EditorMessage Refusal
    → Result Session Refusal
taken l service s read = read >>= accepted l service s
