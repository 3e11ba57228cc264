-- How answering with a mirror stops (this project's own).
use Rattle.std.specs.Prelude.{◌≡◌, ℕ, ◌≤◌, List, ◌∷◌, Option}
use Rattle.language.specs.Lang.{Lang}
use Rattle.reply_outbox.specs.Items.{entries}
use Rattle.document_session.specs.Contents.{SessionState}
use Rattle.message_input.specs.Counts.{CountsSo}
use Rattle.message_input.specs.declared.answering.Halt.{Halt}
use Rattle.message_input.specs.declared.answering.Halt.TheVariants as halt
use Rattle.document_serve.specs.Runs.{Fails, GoesOn, IsEnded, RunsShort}
use Rattle.mirror_serve.specs.LongReplies.{too_long_in}

-- these messages were answered, and their replies are written, of which one is the first with too
-- long a chunk, of this length; and the session has ended
pub record EndsLong {S : Type 0} (l : Lang S) (held held' : Option (List ℕ))
    (old new : SessionState) (first : List (List (List ℕ))) (len : ℕ) : Type 0 where
  pub last : SessionState
  pub goes : GoesOn l held held' old last first
  pub ends : IsEnded l last new
  pub more : List ℕ
  pub long : too_long_in l new.service (entries new.items) ≡ len ∷ more

-- so by the halt; the sink's count of faults never falls, and rises where writing fails
abbrev pub HaltsSo : {S : Type 0} → Lang S → Halt → Option (List ℕ) → Option (List ℕ) → ℕ → ℕ
    → SessionState → SessionState → List (List (List ℕ)) → List (List (List ℕ)) → Type 0
HaltsSo l halt.WriteFault held held' faults faults' old new first rest =
    Fails l held held' old new first rest × CountsSo halt.WriteFault faults faults'
HaltsSo l halt.NoMemory held held' faults faults' old new first rest =
    RunsShort l held held' old new first rest × CountsSo halt.NoMemory faults faults'
HaltsSo l (halt.BadReply len) held held' faults faults' old new first rest =
    EndsLong l held held' old new first len × (faults ≤ faults')
