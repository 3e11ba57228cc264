-- How an editor follows a history of messages that came as bytes (this project's own).
use Rattle.std.specs.Prelude.{◌≡◌, ◌≤◌, List, length, ⊤, None}
use Rattle.std.specs.List.{AllByRecursion}
use Rattle.byte_message.specs.Limits.{longest_chunk}
use Rattle.byte_message.specs.Stream.{IsMessage}
use Rattle.language.specs.Lang.{Lang}
use Rattle.reply_messages.specs.declared.told.Told.{Told}
use Rattle.reply_messages.specs.Replies.{reply_chunks}
use Rattle.session_rules.specs.declared.entry.Entry.{Entry}
use Rattle.session_rules.specs.declared.entry.Entry.TheVariants as entry
use Rattle.session_rules.specs.declared.service.Service.{Service}
use Rattle.session_rules.specs.declared.service.Service.TheVariants.{Script}
use Rattle.session_rules.specs.Alone.{IsAlone}
use Rattle.session_rules.specs.Heard.{all_heard}
use Rattle.session_rules.specs.Legal.{IsLegal}
use Rattle.session_rules.specs.Services.{mode_of}
use Rattle.mirror_rules.specs.Events.{AreMoves, MirrorEvent}
use Rattle.mirror_rules.specs.Moves.{Move}
use Rattle.editor_laws.specs.Streams.{AreInTime, all_replies}

-- where the entry is a call, its chunks are a byte message
abbrev pub IsByteCall : Entry → Type 0
IsByteCall (entry.Call chunks) = IsMessage chunks
IsByteCall other = ⊤

-- so are all calls of a history; what is read of a stream is never anything else
abbrev pub AreMessages : List Entry → Type 0
AreMessages history = AllByRecursion IsByteCall history

-- no chunk of the reply is longer than that of a byte message may be
abbrev pub IsShort : Told → Type 0
IsShort told = AllByRecursion (λ chunk. length chunk ≤ longest_chunk) (reply_chunks told)

-- an editor that follows a legal history of byte messages by bytes, cut anywhere, and what it heard
-- of them; where messages step the workers, the reader works before settles alone; and no reply has
-- too long a chunk
pub record FollowsMessages {S : Type 0} (l : Lang S) (service : Service) (history : List Entry)
    (events : List MirrorEvent) (moves : List Move) : Type 0 where
  pub legal : IsLegal l service (all_heard service history)
  pub alone : service ≡ Script → IsAlone l service None (all_heard service history)
  pub calls : AreMessages history
  pub short : AllByRecursion IsShort (all_replies l service history)
  pub time : AreInTime l service history events
  pub heard : AreMoves (mode_of service) events moves
