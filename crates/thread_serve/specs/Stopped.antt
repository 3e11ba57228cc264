-- What the writer and the reader bring back (this project's own).
use Rattle.std.specs.Prelude.{◌≡◌, ◌≢◌, ◌⊎◌, ℕ, ◌≤◌, List, [], Option, None}
use Rattle.std.specs.List.{Contains}
use Rattle.std.specs.Io.KnownBytes.{Appends}
use Rattle.pide_base.specs.Faults.{Rose}
use Rattle.pide_base.specs.Moves.{AppendsFront}
use Rattle.pide_base.specs.declared.status.Status.{Status}
use Rattle.pide_base.specs.declared.status.Status.TheVariants as status
use Rattle.hist_lock.specs.declared.state.State.{Ghosts}
use Rattle.hist_lock.specs.declared.view.View.{View}
use Rattle.hist_lock.specs.declared.pass.Pass.{Pass}
use Rattle.hist_lock.specs.declared.shared.Shared.{Shared}
use Rattle.hist_lock.specs.Passes.{view, IsPassOf}
use Rattle.worker_loop.specs.Held.{held_in}
use Rattle.worker_loop.specs.Rounds.{HasSeen}
use Rattle.worker_loop.specs.Sending.{AreSent, KnowsOwn}
use Rattle.worker_loop.specs.Written.{Holding}
use Rattle.worker_loop.specs.declared.said.Said.TheVariants as said
use Rattle.worker_loop.specs.declared.writer.Written.{Written}
use Rattle.worker_loop.specs.declared.writer.Written.TheVariants as written
use Rattle.language.specs.Lang.{Lang}
use Rattle.reply_outbox.specs.declared.item.Item.TheVariants as item
use Rattle.session_rules.specs.declared.entry.Entry.TheVariants as entry
use Rattle.document_session.specs.keeping_rules_below.Items.{SessionItem}
use Rattle.document_session.specs.Contents.{SessionState}
use Rattle.message_input.specs.Causes.{HasCause}
use Rattle.document_serve.specs.Headline.{MessagesRead}
use Rattle.document_serve.specs.Served.{calls_in}
use Rattle.view_laws.specs.Callers.{whose}
use Rattle.view_laws.specs.Says.{says}
use Rattle.view_laws.specs.Sent.{bytes_sent}
use Rattle.thread_serve.specs.Reader.{calls_made}

-- a pass of the writer, which has this number: it has made nothing and was handed nothing
pub record IsWriter {S T : Type 0} {g : Ghosts T SessionItem} (l : Lang S)
    (lock : Shared T SessionItem) (who : ℕ) (p : Pass T SessionItem g) : Type 0 where
  pub own : IsPassOf lock p
  pub writer : (view p).caller ≡ who
  pub none_made : (view p).mine ≡ []
  pub none_handed : bytes_sent l who (view p).seen ≡ []
  pub knows : KnowsOwn whose (view p)

-- all that the writer was handed is written, and it has not lost the sink; or it has, as a fault
-- came, and a front of that is written
abbrev pub WroteSo : {S : Type 0} → Lang S → ℕ → Holding → Written → View SessionItem → Holding
    → Type 0
WroteSo l who before written.Ended w after =
    Appends before.contents after.contents (bytes_sent l who w.seen) × AreSent says w.mine
WroteSo l who before written.WriteFault w after =
    AppendsFront before.contents after.contents (bytes_sent l who w.seen)
    × ((lost : SessionItem) × Contains w.mine lost × (says lost ≡ said.Lost))
    × Rose before.faults after.faults

-- the writer of this number has stopped, and its sink came from the one state to the other
pub record HasWritten {S : Type 0} (l : Lang S) (who : ℕ) (before : Holding) (why : Written)
    (w : View SessionItem) (after : Holding) : Type 0 where
  pub writer : w.caller ≡ who
  pub knows : KnowsOwn whose w
  pub wrote : WroteSo l who before why w after
  pub steady : before.faults ≤ after.faults

-- answering halted
abbrev pub IsHalt : Status → Type 0
IsHalt how = (how ≡ status.WriteFault) ⊎ (how ≡ status.NoMemory)

-- the reader has taken its input, to this status, and ended all: a session with its calls has
-- those of the messages read; and what it holds and saw is so by the status
pub record HasRead (limit : ℕ) (how : Status) (left left' : Option (List ℕ)) (w : View SessionItem)
    : Type 0 where
  pub reader : w.caller ≡ 0
  pub messages : (s : SessionState) → calls_in s.items ≡ calls_made w.mine
      → MessagesRead how left left' s
  pub ended : Contains w.mine (item.Made entry.Ended)
  pub free : how ≡ status.Done → held_in says w.mine ≡ None
  pub lost : how ≡ status.WriteFault → HasSeen says w said.Lost
  pub replies : (len : ℕ) → how ≢ status.BadReply len
  pub causes : HasCause limit how left left'
