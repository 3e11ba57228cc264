-- How an editor follows a history (this project's own).
use Rattle.std.specs.Prelude.{◌≡◌, ℕ, List, [], ◌∷◌, ◌++◌, Some}
use Rattle.language.specs.Lang.{Lang}
use Rattle.message_values.specs.Asked.{asked}
use Rattle.reply_messages.specs.declared.told.Told.{Told}
use Rattle.session_rules.specs.declared.entry.Entry.{Entry}
use Rattle.session_rules.specs.declared.entry.Entry.TheVariants as entry
use Rattle.session_rules.specs.declared.service.Service.{Service}
use Rattle.session_rules.specs.Heard.{heard, all_heard}
use Rattle.session_rules.specs.Replies.{entry_replies}
use Rattle.session_rules.specs.Services.{mode_of}
use Rattle.mirror_rules.specs.Answers.{Read}
use Rattle.mirror_rules.specs.Moves.{Move, Sent, Heard}

-- the message of an entry, as it is read, where the entry is a call
abbrev pub call_of : Service → Entry → List Read
call_of service (entry.Call chunks) = asked (mode_of service) chunks ∷ []
call_of service other = []

-- the messages of a history, of which the newest entry is first; the oldest message is first
abbrev pub calls : Service → List Entry → List Read
calls service [] = []
calls service (e ∷ h) = calls service h ++ call_of service e

-- these are the first of the messages
abbrev pub AreFirst : List Read → List Read → Type 0
AreFirst sent calls = (more : List Read) × (calls ≡ sent ++ more)

-- replies are heard one after the other, behind these moves
abbrev pub AreHeard : List Told → List Move → List Move → Type 0
AreHeard [] before moves = moves ≡ before
AreHeard (told ∷ more) before moves =
    (at : ℕ) × AreHeard more (Heard at (Some told) ∷ before) moves

-- messages are sent one after the other, behind these moves
abbrev pub sends : List Read → List Move → List Move
sends [] moves = moves
sends (read ∷ more) moves = sends more (Sent read ∷ moves)

-- an editor that sends a history's messages in their order, each before its reply, and has heard
-- all replies of the entries so far: the entries that are still ahead, the newest first; those so
-- far; the messages sent that are ahead; and what the editor did, the newest first
abbrev pub Follows : {S : Type 0} → Lang S → Service → List Entry → List Entry → List Read
    → List Move → Type 0
Follows l service ahead [] sent moves =
    (moves ≡ sends sent []) × AreFirst sent (calls service ahead)
Follows l service ahead (e ∷ h) sent moves = (before after : List Read) × (older newer : List Move)
    × Follows l service (ahead ++ e ∷ []) h (call_of service e ++ before) older
    × AreHeard (entry_replies l service (all_heard service h) (heard service e)) older newer
    × (moves ≡ sends after newer) × (sent ≡ before ++ after)
    × AreFirst sent (calls service ahead)
