-- What an editor sends, and the bytes that it hears, cut into pieces anywhere.
use Rattle.std.specs.Prelude.{◌≡◌, ℕ, List, [], ◌∷◌, ◌++◌, length}
use Rattle.byte_message.specs.Stream.{IsSpelling, IsShort, EndsAs, Bad}
use Rattle.message_values.specs.declared.mode.Mode.{Mode}
use Rattle.message_values.specs.Asked.{asked}
use Rattle.reply_messages.specs.FoundReplies.{FindsReply}
use Rattle.mirror_rules.specs.Moves.{Move, Sent, Heard, Broken}

-- the chunks of a message that was sent, or a piece of what was heard
pub data MirrorEvent : Type 0 where
  Given : List (List ℕ) → MirrorEvent
  Fed : List ℕ → MirrorEvent

-- all that was heard, of events of which the newest is first
abbrev pub stream : List MirrorEvent → List ℕ
stream [] = []
stream (Given chunks ∷ events) = stream events
stream (Fed piece ∷ events) = stream events ++ piece

-- what was heard among moves
abbrev pub heard_moves : List Move → List Move
heard_moves [] = []
heard_moves (Sent read ∷ moves) = heard_moves moves
heard_moves (move ∷ moves) = move ∷ heard_moves moves

-- the bytes are whole messages, the newest move's at the end, each heard where it begins
abbrev pub AreSpelled : List ℕ → List Move → Type 0
AreSpelled bytes [] = bytes ≡ []
AreSpelled bytes (Heard at reply ∷ moves) = (before front : List ℕ) × (message : List (List ℕ))
    × (bytes ≡ before ++ front) × IsSpelling front message × FindsReply message reply
    × (at ≡ length before) × AreSpelled before moves
AreSpelled bytes (move ∷ moves) = ⊥

-- whole messages, and then less than one, or a line that isn't fit
abbrev pub AreHeard : List ℕ → List Move → Type 0
AreHeard bytes (Broken fault ∷ moves) = (before rest : List ℕ) × (bytes ≡ before ++ rest)
    × EndsAs (length before) rest (Bad fault) × AreSpelled before moves
AreHeard bytes moves = (before rest : List ℕ) × (bytes ≡ before ++ rest)
    × IsShort rest × AreSpelled before moves

-- the moves that events come to: after each piece, what was heard is all that the bytes so far
-- spell, and what is new of it comes behind the moves before
abbrev pub AreMoves : Mode → List MirrorEvent → List Move → Type 0
AreMoves mode [] moves = moves ≡ []
AreMoves mode (Given chunks ∷ events) moves = (before : List Move)
    × (moves ≡ Sent (asked mode chunks) ∷ before) × AreMoves mode events before
AreMoves mode (Fed piece ∷ events) moves = (before new : List Move)
    × (moves ≡ new ++ before) × (heard_moves new ≡ new) × AreMoves mode events before
    × AreHeard (stream events ++ piece) (heard_moves moves)
