-- A mirror as it is kept (this project's own).
use Rattle.std.specs.Prelude.{◌≡◌, List, [], Option, Some, None}
use Rattle.byte_message.specs.Kept.{Framing}
use Rattle.message_values.specs.declared.mode.Mode.{Mode}
use Rattle.mirror_rules.specs.Moves.{Move, Sent, Heard, Broken, Reflection, mirrored}
use Rattle.mirror_rules.specs.Moves as reflection
use Rattle.pide_mirror.specs.Knowing.{IsGoing}
use Rattle.pide_mirror.specs.declared.error.MirrorError.{MirrorError}
use Rattle.pide_mirror.specs.declared.error.MirrorError.TheVariants.{Fault}
use Rattle.pide_mirror.specs.declared.going.Going.{Going}
use Rattle.pide_mirror.specs.declared.note.Note.{Note}
use Rattle.pide_mirror.specs.declared.note.Note.TheVariants as note

-- what is noted of a move
abbrev pub as_move : Note → Move
as_move (note.Sent read) = Sent read
as_move (note.Heard at reply) = Heard at reply
as_move (note.Broken fault) = Broken fault

-- what is kept stands for what the moves come to, unless there was a fault, which is told
abbrev pub KnowsSo : Option MirrorError → Going → Reflection → Type 0
KnowsSo (Some (Fault fault)) going known = known ≡ reflection.Faulted fault
KnowsSo ended going (reflection.Going m) = IsGoing going m
KnowsSo ended going (reflection.Faulted fault) = ⊥

-- while more is taken, no reply waits, and there was no fault in a message's line
pub record IsMirror (mode : Mode) (moves : List Move) (frames : Framing) (going : Going)
    (ended : Option MirrorError) : Type 0 where
  pub knows : KnowsSo ended going (mirrored mode moves)
  pub waiting : ended ≡ None → frames.waiting ≡ []
  pub fault : ended ≡ None → frames.fault ≡ None
