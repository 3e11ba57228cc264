-- How the messages of a build are answered, and how that stops (this project's own).
use Rattle.std.specs.Prelude.{◌≡◌, ℕ, ◌≤◌, List, Option, Result, Ok, Err}
use Rattle.std.specs.Io.KnownBytes.{Appends}
use Rattle.pide_base.specs.Moves.{AppendsFront}
use Rattle.pide_base.specs.declared.status.Status.{Status}
use Rattle.pide_base.specs.declared.status.Status.TheVariants as status
use Rattle.message_input.specs.declared.answering.Halt.{Halt}
use Rattle.message_input.specs.declared.answering.Halt.TheVariants as halt
use Rattle.message_input.specs.Counts.{CountsSo}
use Rattle.pide_build.specs.Replies.{refusals}
use Rattle.pide_build.specs.Theories.{TheoryList, theories_after}

-- the messages were answered: what they bring is kept, and what they are replied is written
pub record GoesOn (held held' : Option (List ℕ)) (faults faults' : ℕ) (old new : TheoryList)
    (messages : List (List (List ℕ))) : Type 0 where
  pub theories : new ≡ theories_after messages old
  pub writes : Appends held held' (refusals messages old)
  pub steady : faults ≤ faults'

-- the messages were answered, the last of them not to its end: a front of what they are replied is
-- written
pub record Stops (held held' : Option (List ℕ)) (faults faults' : ℕ) (old : TheoryList)
    (messages : List (List (List ℕ))) (how : Halt) : Type 0 where
  pub writes : AppendsFront held held' (refusals messages old)
  pub counts : CountsSo how faults faults'

-- the status of a run that came to its end, or halted
abbrev pub status_of : Result (Unit {0}) Halt → Status
status_of (Ok done) = status.Done
status_of (Err halt.WriteFault) = status.WriteFault
status_of (Err halt.NoMemory) = status.NoMemory
status_of (Err (halt.BadReply len)) = status.BadReply len
