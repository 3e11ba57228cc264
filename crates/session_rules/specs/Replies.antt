-- What is replied (this project's own).
use Rattle.std.specs.Prelude.{ℕ, Bool, true, false, not, ◌&&◌, if◌then◌else◌, List, [], ◌∷◌, ◌++◌, map, filter, Result, Ok, Err}
use Rattle.std.specs.Option.{option_map_or}
use Rattle.std.specs.List.{flat_map}
use Rattle.text_words.specs.Members.{has}
use Rattle.byte_message.specs.Stream.{plain_spelling}
use Rattle.pide_base.specs.declared.part.Part.{Part}
use Rattle.text_edits.specs.declared.edit.Edit.{Edit}
use Rattle.exec_rules.specs.Listed.{listed}
use Rattle.exec_rules.specs.declared.version.Version.{Version}
use Rattle.language.specs.Lang.{Lang}
use Rattle.message_values.specs.declared.editor_message.EditorMessage.{EditorMessage}
use Rattle.message_values.specs.declared.editor_message.EditorMessage.TheVariants as asks
use Rattle.message_values.specs.declared.refusal.Refusal.{Refusal}
use Rattle.buffer_laws.specs.buffer_rules_below.Trying.{◌>>=◌}
use Rattle.reply_messages.specs.declared.told.NodeRows.{NodeRows}
use Rattle.reply_messages.specs.declared.told.Told.{Told}
use Rattle.reply_messages.specs.declared.told.Told.TheVariants as tells
use Rattle.reply_messages.specs.Replies.{reply_chunks}
use Rattle.core_rules.specs.Numbered.{numbered}
use Rattle.core_rules.specs.Doc.{Doc}
use Rattle.core_rules.specs.Parts.{reports_of}
use Rattle.core_rules.specs.Shown.{pending}
use Rattle.core_rules.specs.Standing.{is_open}
use Rattle.core_rules.specs.Stuck.{stuck_in}
use Rattle.session_rules.specs.declared.service.Service.{Service}
use Rattle.session_rules.specs.Heard.{Heard, Message, Claimed, Finished, Dropped, Ended}
use Rattle.session_rules.specs.Session.{Session, document}
use Rattle.session_rules.specs.Accepting.{accepted}
use Rattle.session_rules.specs.Looking.{Looked, looked_at, settles}
use Rattle.session_rules.specs.History.{session}
use Rattle.session_rules.specs.Steps.{Due, Claims, due}
use Rattle.session_rules.specs.Shown.{finished_reports, protocol_reports}

-- the nodes whose rows are others in the new version, as a reply tells them
abbrev pub rows_told : Version → Version → List NodeRows
rows_told tip new = map (λ node. record {
  node = node.0;
  rows = map (λ row. record { command = row.0; executions = row.1 }) node.1;
}) (listed tip new)

-- there are pending edits
abbrev pub is_outdated : List Edit → Bool
is_outdated [] = false
is_outdated (edit ∷ edits) = true

-- what a snapshot tells
abbrev pub markup : {S : Type 0} → Lang S → Session → ℕ → List ℕ → List Edit → Looked → Told
markup l s id name edits looked = tells.Markup id name
    (protocol_reports s.protocol looked.text
    (finished_reports l s.events looked.version name edits))
    (pending l s.events (document l s) looked.version name) (is_outdated edits)

-- a cancellation has an effect where a part is unfinished and the execution wasn't cancelled
abbrev pub cancelling : {S : Type 0} → Lang S → Session → ℕ → Told
cancelling l s exec =
    if is_open l s.events (document l s).homes exec && not (has (document l s).cancelled exec)
    then tells.Cancelled exec else tells.Idle exec

-- the live versions among these ids, rising
abbrev pub live_among : Doc → List ℕ → List ℕ
live_among d ids = filter (has ids) (map (λ live. live.id) d.live)

-- what is told of a message that is not refused, by the session before it and that after it; what
-- a worker is told to do is told by the entry that follows
abbrev pub message_replies : {S : Type 0} → Lang S → Service → Session → Session → EditorMessage
    → Result (List Told) Refusal
message_replies l service s s' (asks.Update version items blobs) =
    Ok (tells.Assign version (rows_told (document l s).tip (document l s').tip) ∷ [])
message_replies l service s s' (asks.Snapshot version node edits) =
    looked_at l s version node edits >>= λ looked. Ok (markup l s version node edits looked ∷ [])
message_replies l service s s' (asks.Cancel exec) = Ok (cancelling l s exec ∷ [])
message_replies l service s s' (asks.RemoveVersions versions) =
    Ok (tells.Removed (live_among (document l s) versions) ∷ [])
message_replies l service s s' (asks.Settle id) = settles l service s id >>= λ version.
    Ok (tells.Settled id (stuck_in l s.events (document l s) version) ∷ [])
message_replies l service s s' (asks.Protocol protocol) = Ok (tells.Protocol protocol ∷ [])
message_replies l service s s' other = Ok []

-- a refusal is told by its number
abbrev pub or_refusal : Result (List Told) Refusal → List Told
or_refusal (Ok told) = told
or_refusal (Err reason) = tells.Refused reason ∷ []

-- what is told of what was read after a session
abbrev pub told_to : {S : Type 0} → Lang S → Service → Session → Result EditorMessage Refusal
    → List Told
told_to l service s read = or_refusal (read >>= λ message.
    accepted l service s message >>= λ after. message_replies l service s after message)

-- what came of a finished part, at places of its command's source
abbrev pub report_of : {S : Type 0} → Lang S → Session → Part → Told
report_of l s part = tells.Report part (protocol_reports s.protocol
    (option_map_or (λ home. home.source) (numbered (document l s).homes part.exec) [])
    (option_map_or (λ reports. reports) (reports_of l (document l s).homes part) []))

-- a claim is told to the message that called for it
abbrev pub claim_told : Part → Due → List Told
claim_told part (Claims w) = tells.Claimed w part ∷ []
claim_told part other = []

-- what is told of an entry after a history
abbrev pub entry_replies : {S : Type 0} → Lang S → Service → List Heard → Heard → List Told
entry_replies l service h (Message read) = told_to l service (session l service h) read
entry_replies l service h (Claimed who part) = claim_told part (due l service h)
entry_replies l service h (Finished who part) = report_of l (session l service h) part ∷ []
entry_replies l service h (Dropped who part) = tells.Dropped part ∷ []
entry_replies l service h Ended = []

-- the bytes of replies
abbrev pub bytes_of : List Told → List ℕ
bytes_of = flat_map (λ t. plain_spelling (reply_chunks t))

-- all that is written, entry by entry in order
abbrev pub replies : {S : Type 0} → Lang S → Service → List Heard → List ℕ
replies l service [] = []
replies l service (e ∷ h) = replies l service h ++ bytes_of (entry_replies l service h e)
