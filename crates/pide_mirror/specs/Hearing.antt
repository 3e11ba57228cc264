-- What a mirror has sent and heard (this project's own).
use Rattle.std.specs.Prelude.{◌≡◌, ℕ, List, ◌++◌, length, map, Option, None}
use Rattle.byte_message.specs.Kept.{Framing}
use Rattle.byte_message.specs.Stream.{IsShort, told_place}
use Rattle.message_values.specs.declared.mode.Mode.{Mode}
use Rattle.mirror_rules.specs.Events.{AreMoves, AreSpelled, MirrorEvent, heard_moves, stream}
use Rattle.mirror_rules.specs.Moves.{Move, Heard}
use Rattle.pide_mirror.specs.declared.error.MirrorError.{MirrorError}

-- how messages are read; what was sent and heard, the newest first, with places as numbers of 64
-- bits tell them; what is kept of the next reply; and why nothing more is taken, if that is so
pub record Hearing : Type 0 where
  pub mode : Mode
  pub moves : List Move
  pub frames : Framing
  pub ended : Option MirrorError

-- a move with its place so told
abbrev pub told_move : Move → Move
told_move (Heard at reply) = Heard (told_place at) reply
told_move move = move

-- so for all moves
abbrev pub told_moves : List Move → List Move
told_moves moves = map told_move moves

-- of these bytes all whole messages were heard, and less than one is kept
pub record IsHeard (bytes : List ℕ) (moves : List Move) (frames : Framing) : Type 0 where
  pub front : List ℕ
  pub whole : bytes ≡ front ++ frames.rest
  pub spelled : AreSpelled front moves
  pub short : IsShort frames.rest
  pub at : frames.at ≡ told_place (length front)

-- a mirror's moves are those that these events, the newest first, come to
pub record HasHeard (events : List MirrorEvent) (now : Hearing) : Type 0 where
  pub moves : List Move
  pub come : AreMoves now.mode events moves
  pub noted : now.moves ≡ told_moves moves
  pub kept : now.ended ≡ None → IsHeard (stream events) (heard_moves moves) now.frames
