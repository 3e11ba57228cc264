-- What a piece does to a decoder.
use Rattle.std.specs.Prelude.{◌≡◌, ℕ, ◌+◌, List, [], ◌∷◌, ◌++◌, length, Option, Some, None, Result, Ok, Err}
use Rattle.byte_message.specs.Kept.{Framing, Stands}
use Rattle.byte_message.specs.Stream.{Ending}
use Rattle.byte_message.specs.Stream.Ending.{Whole, Bad, Short}
use Rattle.byte_message.specs.declared.frame_fault.FrameFault.{FrameFault}
use Rattle.byte_message.specs.declared.fault.FeedError.{FeedError}
use Rattle.byte_message.specs.declared.fault.FeedError.TheVariants.{Frame, NoMemory}
use Rattle.byte_message.specs.declared.fault.Truncated.{Truncated}

-- the stream so far is the one before and the piece
abbrev pub Continues : Framing → List ℕ → Framing → Type 0
Continues old piece new = (stream : List ℕ) (taken : List (List (List ℕ)))
    → Stands stream taken old → Stands (stream ++ piece) taken new

-- by the answer: how many messages were made, the fault, or nothing has changed
abbrev pub Feeds : Framing → List ℕ → Framing → Result ℕ FeedError → Type 0
Feeds old piece new (Ok made) =
    Continues old piece new × (new.fault ≡ None) × (length new.waiting ≡ length old.waiting + made)
Feeds old piece new (Err (Frame fault)) = Continues old piece new × (new.fault ≡ Some fault)
Feeds old piece new (Err NoMemory) = new ≡ old

-- the next message that waits was taken, and the others wait; or none waited
abbrev pub Takes : Framing → Framing → Option (List (List ℕ)) → Type 0
Takes old new None = (old.waiting ≡ []) × (new ≡ old)
Takes old new (Some message) = old ≡ record new { waiting = message ∷ new.waiting }

-- how the stream so far ends
abbrev pub ending_by : Option FrameFault → ℕ → List ℕ → Ending
ending_by (Some fault) at rest = Bad fault
ending_by None at [] = Whole
ending_by None at (b ∷ rest) = Short at

-- how the stream that a decoder has read ends
abbrev pub ending_of : Framing → Ending
ending_of now = ending_by now.fault now.at now.rest

-- whether a stream with this ending breaks off within a message, and where that begins
abbrev pub cut_off : Ending → Result (Unit {0}) Truncated
cut_off Whole = Ok tt
cut_off (Bad fault) = Ok tt
cut_off (Short at) = Err (record { at = at })
