-- How an editor follows a history whose replies come as bytes (this project's own).
use Rattle.std.specs.Prelude.{◌≡◌, ◌≢◌, ℕ, ◌≤◌, List, [], ◌∷◌, ◌++◌, length, ⊤, None}
use Rattle.std.specs.List.{AllByRecursion}
use Rattle.byte_message.specs.Stream.{Ending, IsMessage, IsReadAs}
use Rattle.language.specs.Lang.{Lang}
use Rattle.message_values.specs.Asked.{asked}
use Rattle.reply_messages.specs.declared.told.Told.{Told}
use Rattle.reply_messages.specs.Replies.{reply_chunks}
use Rattle.reply_messages.specs.FoundReplies.{IsReply}
use Rattle.session_rules.specs.declared.entry.Entry.{Entry}
use Rattle.session_rules.specs.declared.entry.Entry.TheVariants as entry
use Rattle.session_rules.specs.declared.service.Service.{Service}
use Rattle.session_rules.specs.declared.service.Service.TheVariants.{Script}
use Rattle.session_rules.specs.Alone.{IsAlone}
use Rattle.session_rules.specs.Heard.{heard, all_heard}
use Rattle.session_rules.specs.Legal.{IsLegal}
use Rattle.session_rules.specs.Replies.{replies, entry_replies}
use Rattle.session_rules.specs.Services.{mode_of}
use Rattle.mirror_rules.specs.Answers.{Read}
use Rattle.mirror_rules.specs.Events.{AreMoves, MirrorEvent, Given, Fed, stream}
use Rattle.mirror_rules.specs.Moves.{Move}
use Rattle.editor_laws.specs.Follows.{AreFirst, calls}

-- all that is told in a history, the oldest first
abbrev pub all_replies : {S : Type 0} → Lang S → Service → List Entry → List Told
all_replies l service [] = []
all_replies l service (e ∷ h) =
    all_replies l service h ++ entry_replies l service (all_heard service h) (heard service e)

-- a reply whose chunks are few and short enough for a byte message, and that can be read
pub record CanBeHeard (told : Told) : Type 0 where
  pub message : IsMessage (reply_chunks told)
  pub reply : IsReply told

-- the messages that were sent, as they are read, the oldest first
abbrev pub reads_given : Service → List MirrorEvent → List Read
reads_given service [] = []
reads_given service (Given chunks ∷ events) =
    reads_given service events ++ asked (mode_of service) chunks ∷ []
reads_given service (Fed piece ∷ events) = reads_given service events

-- the messages are the first of the history's; the bytes are the first of its replies; and no more
-- replies are whole than stand before the first call that was not sent
pub record IsInTime {S : Type 0} (l : Lang S) (service : Service) (history : List Entry)
    (events : List MirrorEvent) : Type 0 where
  pub order : AreFirst (reads_given service events) (calls service history)
  pub bytes : (rest : List ℕ)
      × (replies l service (all_heard service history) ≡ stream events ++ rest)
  pub sent : (ahead h : List Entry) (chunks : List (List ℕ)) (messages : List (List (List ℕ)))
      (ending : Ending) → history ≡ ahead ++ entry.Call chunks ∷ h
      → length (reads_given service events) ≤ length (calls service h)
      → IsReadAs (stream events) messages ending
      → length messages ≤ length (all_replies l service h)

-- so at each moment
abbrev pub AreInTime : {S : Type 0} → Lang S → Service → List Entry → List MirrorEvent → Type 0
AreInTime l service history [] = ⊤
AreInTime l service history (event ∷ events) =
    AreInTime l service history events × IsInTime l service history (event ∷ events)

-- an editor that follows a legal history by bytes, cut anywhere, and what it heard of them; where
-- messages step the workers, the reader works before settles alone; and all replies can be heard
pub record FollowsBytes {S : Type 0} (l : Lang S) (service : Service) (history : List Entry)
    (events : List MirrorEvent) (moves : List Move) : Type 0 where
  pub legal : IsLegal l service (all_heard service history)
  pub alone : service ≡ Script → IsAlone l service None (all_heard service history)
  pub replies : AllByRecursion CanBeHeard (all_replies l service history)
  pub time : AreInTime l service history events
  pub heard : AreMoves (mode_of service) events moves

-- the newest entry of a history has a reply, and the bytes end with it
pub record EndsWith {S : Type 0} (l : Lang S) (service : Service) (h : List Entry) (e : Entry)
    (bytes : List ℕ) : Type 0 where
  pub reply : entry_replies l service (all_heard service h) (heard service e) ≢ []
  pub all : bytes ≡ replies l service (all_heard service (e ∷ h))
