-- What is promised of a run in threads. `s` is the session after it; the bytes taken are those that
-- were left before and no more after (this project's own).
use Rattle.std.specs.Prelude.{◌≡◌, ◌≢◌, ℕ, Bool, true, false, List, Option, None}
use Rattle.pide_base.specs.declared.status.Status.{Status}
use Rattle.pide_base.specs.declared.status.Status.TheVariants as status
use Rattle.language.specs.Lang.{Lang}
use Rattle.core_rules.specs.Standing.{held}
use Rattle.reply_outbox.specs.Items.{is_lost}
use Rattle.document_session.specs.keeping_rules_below.Items.{session_in}
use Rattle.document_session.specs.Contents.{SessionState}
use Rattle.message_input.specs.Causes.{HasCause}
use Rattle.document_serve.specs.Served.{AllSent}
use Rattle.document_serve.specs.Headline.{BytesSent, BytesWritten, MessagesRead, OneLegalHistory}

-- where writing fails the sink is lost; else it is not, and all replies are sent
abbrev pub LosesOnly : {S : Type 0} → Lang S → Status → SessionState → Type 0
LosesOnly l status.WriteFault s = is_lost s.items ≡ true
LosesOnly l _ s = (is_lost s.items ≡ false) × AllSent l s.service s.items

-- nobody holds a part
abbrev pub NobodyHolds : {S : Type 0} → Lang S → SessionState → Type 0
NobodyHolds l s = (who : ℕ) → held (session_in l s.service s.items).events who ≡ None

-- the status of a run, by whether the sink is lost, whether memory was short for the workers, and
-- how its input ended
abbrev pub status_of : Bool → Bool → Status → Status
status_of true is_short how = status.WriteFault
status_of false true status.Done = status.NoMemory
status_of false is_short how = how

-- what each run keeps, whatever its status
pub record IsServed {S : Type 0} (l : Lang S) (limit : ℕ) (how : Status)
    (left left' held held' : Option (List ℕ)) (s : SessionState) : Type 0 where
  pub written : BytesWritten l how held held' s
  pub sent : BytesSent l how held held' s
  pub lost : LosesOnly l how s
  pub legal : OneLegalHistory l how s
  pub read : MessagesRead how left left' s
  pub free : how ≡ status.Done → NobodyHolds l s
  pub replies : (len : ℕ) → how ≢ status.BadReply len
  pub causes : HasCause limit how left left'
