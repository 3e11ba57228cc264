-- What an editor sent and heard, one after the other, and what it knows then.
use Rattle.std.specs.Prelude.{ℕ, List, [], ◌∷◌, ◌++◌, Option, Some, None}
use Rattle.byte_message.specs.Stream.{told_place}
use Rattle.byte_message.specs.declared.frame_fault.FrameFault.{FrameFault}
use Rattle.message_values.specs.declared.mode.Mode.{Mode}
use Rattle.reply_messages.specs.declared.told.Told.{Told}
use Rattle.mirror_rules.specs.declared.fault.MirrorFault.{MirrorFault}
use Rattle.mirror_rules.specs.declared.fault.MirrorFault.TheVariants.{Frame, Unexpected}
use Rattle.mirror_rules.specs.Images.{Mirror, empty_mirror}
use Rattle.mirror_rules.specs.Answers.{Read}
use Rattle.mirror_rules.specs.Replies.{mirror_after}

-- a message was sent; a whole byte message was heard from a place on, with the reply that it is, if
-- it is one; or what was heard went wrong in a message's line
pub data Move : Type 0 where
  Sent : Read → Move
  Heard : ℕ → Option Told → Move
  Broken : FrameFault → Move

-- all was as it should be, or there was a fault
pub data Reflection : Type 0 where
  Going : Mirror → Reflection
  Faulted : MirrorFault → Reflection

-- by what came of a reply that begins at a place
abbrev pub reflection_by : ℕ → Option Mirror → Reflection
reflection_by at (Some m) = Going m
reflection_by at None = Faulted (Unexpected (told_place at))

-- one move more, behind those without a fault
abbrev pub after_move : Mode → Mirror → Move → Reflection
after_move mode m (Sent read) = Going (record m { unanswered = m.unanswered ++ read ∷ [] })
after_move mode m (Heard at reply) = reflection_by at (mirror_after mode m reply)
after_move mode m (Broken fault) = Faulted (Frame fault)

-- one move more: the first fault stays
abbrev pub next_reflection : Mode → Reflection → Move → Reflection
next_reflection mode (Going m) move = after_move mode m move
next_reflection mode (Faulted fault) move = Faulted fault

-- what the editor knows after these moves, the newest first
abbrev pub mirrored : Mode → List Move → Reflection
mirrored mode [] = Going empty_mirror
mirrored mode (move ∷ moves) = next_reflection mode (mirrored mode moves) move
