-- What is promised of a run. `s` is the session after it, with the items of its list, the newest
-- first; the bytes taken are those that were left before and no more after (this project's own).
use Rattle.std.specs.Prelude.{◌≡◌, ℕ, true, false, List, ◌++◌, Option, None, ⊤}
use Rattle.std.specs.Io.KnownBytes.{Appends, Consumes}
use Rattle.pide_base.specs.Moves.{AppendsFront}
use Rattle.pide_base.specs.declared.status.Status.{Status}
use Rattle.pide_base.specs.declared.status.Status.TheVariants as status
use Rattle.byte_message.specs.Stream.{Ending, IsReadAs}
use Rattle.language.specs.Lang.{Lang}
use Rattle.core_rules.specs.Standing.{has_ended}
use Rattle.reply_outbox.specs.Items.{is_lost}
use Rattle.session_rules.specs.Legal.{IsLegal}
use Rattle.session_rules.specs.Steps.{Nothing, due}
use Rattle.session_rules.specs.Alone.{IsAlone}
use Rattle.document_session.specs.keeping_rules_below.Items.{heard_in, session_in}
use Rattle.document_session.specs.keeping_rules_below.Legal.{AreLegal}
use Rattle.document_session.specs.Contents.{SessionState}
use Rattle.document_serve.specs.Served.{AllSent, IsLostLast, calls_in, replies_in, sent_in}
use Rattle.document_serve.specs.Going.{IsWorkedFor, IsLeftFor}
use Rattle.message_input.specs.Causes.{HasCause, Tells}

-- the bytes written are the replies of the history; where writing fails, a front of them
abbrev pub BytesWritten : {S : Type 0} → Lang S → Status → Option (List ℕ) → Option (List ℕ)
    → SessionState → Type 0
BytesWritten l status.WriteFault old new s = AppendsFront old new (replies_in l s.service s.items)
BytesWritten l _ old new s = Appends old new (replies_in l s.service s.items)

-- what is written is just what the list tells as sent; where writing fails, a front of that
abbrev pub BytesSent : {S : Type 0} → Lang S → Status → Option (List ℕ) → Option (List ℕ)
    → SessionState → Type 0
BytesSent l status.WriteFault old new s = AppendsFront old new (sent_in l s.service s.items)
BytesSent l _ old new s = Appends old new (sent_in l s.service s.items)

-- where writing fails the sink is lost, and nothing is done since then; else it is not lost, and
-- all replies are sent
abbrev pub LosesSo : {S : Type 0} → Lang S → Status → SessionState → Type 0
LosesSo l status.WriteFault s = IsLostLast s
LosesSo l _ s = (is_lost s.items ≡ false) × AllSent l s.service s.items

-- the session has ended, but where writing failed or memory was short
abbrev pub Closed : {S : Type 0} → Lang S → Status → SessionState → Type 0
Closed l status.WriteFault s = ⊤
Closed l status.NoMemory s = ⊤
Closed l _ s = has_ended (session_in l s.service s.items).events ≡ true

-- the history is legal, and so is the list with what was sent; what its newest message calls for is
-- done; it has ended but where writing failed or memory was short
pub record OneLegalHistory {S : Type 0} (l : Lang S) (how : Status) (s : SessionState)
    : Type 0 where
  pub legal : IsLegal l s.service (heard_in s.service s.items)
  pub list : AreLegal l s.service s.items
  pub none_due : due l s.service (heard_in s.service s.items) ≡ Nothing
  pub closed : Closed l how s

-- these messages, and others after them of which this holds, are those of the bytes
pub record IsFront (bytes : List ℕ) (messages : List (List (List ℕ)))
    (Holds : List (List (List ℕ)) → Type 0) : Type 0 where
  pub rest : List (List (List ℕ))
  pub ending : Ending
  pub read : IsReadAs bytes (messages ++ rest) ending
  pub holds : Holds rest

-- these bytes' messages were answered, and the status tells how they end; where writing fails,
-- memory is short or a reply is too long, a front of them was
abbrev pub CallsSo : Status → List ℕ → SessionState → Type 0
CallsSo status.WriteFault taken s = IsFront taken (calls_in s.items) (λ rest. ⊤)
CallsSo status.NoMemory taken s = IsFront taken (calls_in s.items) (λ rest. ⊤)
CallsSo (status.BadReply len) taken s = IsFront taken (calls_in s.items) (λ rest. ⊤)
CallsSo how taken s =
    (ending : Ending) × IsReadAs taken (calls_in s.items) ending × Tells how ending

-- the messages answered are those of the bytes taken, in order; where writing fails, memory is
-- short or a reply is too long, a front of them
abbrev pub MessagesRead : Status → Option (List ℕ) → Option (List ℕ) → SessionState → Type 0
MessagesRead how old new s = (taken : List ℕ) × Consumes old new taken × CallsSo how taken s

-- one thread made the history; where writing fails or memory is short it may have worked for the
-- next of the bytes' messages, which isn't answered, and in want of memory it may hold a part
abbrev pub AloneSo : {S : Type 0} → Lang S → Status → List ℕ → SessionState → Type 0
AloneSo l status.WriteFault taken s = IsFront taken (calls_in s.items)
    (λ rest. IsWorkedFor l s.service rest (heard_in s.service s.items))
AloneSo l status.NoMemory taken s = IsFront taken (calls_in s.items)
    (λ rest. IsLeftFor l s.service rest (heard_in s.service s.items))
AloneSo l _ taken s = IsAlone l s.service None (heard_in s.service s.items)

-- so for the bytes taken
abbrev pub MadeAlone : {S : Type 0} → Lang S → Status → Option (List ℕ) → Option (List ℕ)
    → SessionState → Type 0
MadeAlone l how old new s = (taken : List ℕ) × Consumes old new taken × AloneSo l how taken s

-- what each run keeps, whatever its status
pub record IsRun {S : Type 0} (l : Lang S) (limit : ℕ) (how : Status)
    (left left' held held' : Option (List ℕ)) (s : SessionState) : Type 0 where
  pub written : BytesWritten l how held held' s
  pub sent : BytesSent l how held held' s
  pub kept : LosesSo l how s
  pub legal : OneLegalHistory l how s
  pub read : MessagesRead how left left' s
  pub alone : MadeAlone l how left left' s
  pub cause : HasCause limit how left left'
