-- What a piece does to a decoder up to the end of the first message that it makes.
use Rattle.std.specs.Prelude.{◌≡◌, ◌⊎◌, ℕ, ◌+◌, ◌≤◌, ◌<◌, List, [], ◌∷◌, ◌++◌, length, take, Some, None, Result, Ok, Err}
use Rattle.byte_message.specs.Heading.{heading}
use Rattle.byte_message.specs.Heading.Heading.{Faulty}
use Rattle.byte_message.specs.Kept.{Framing}
use Rattle.byte_message.specs.Stream.{IsSpelling, IsShort, told_place, placed_fault}
use Rattle.byte_message.specs.declared.line_fault.LineFault.{LineFault}
use Rattle.byte_message.specs.declared.frame_fault.FrameFault.{FrameFault}
use Rattle.byte_message.specs.declared.fault.FeedError.{FeedError}
use Rattle.byte_message.specs.declared.fault.FeedError.TheVariants.{Frame, NoMemory}

-- with these bytes the message in progress is whole: it waits behind the others, and nothing is
-- kept of the next
pub record MakesWhole (old : Framing) (front : List ℕ) (new : Framing) : Type 0 where
  pub message : List (List ℕ)
  pub spelled : IsSpelling (old.rest ++ front) message
  pub waiting : new.waiting ≡ old.waiting ++ message ∷ []
  pub at : new.at ≡ told_place (old.at + length (old.rest ++ front))
  pub rest : new.rest ≡ []
  pub fault : new.fault ≡ None

-- with these bytes it isn't
pub record StaysShort (old : Framing) (piece : List ℕ) (new : Framing) : Type 0 where
  pub short : IsShort (old.rest ++ piece)
  pub rest : new.rest ≡ old.rest ++ piece
  pub waiting : new.waiting ≡ old.waiting
  pub at : new.at ≡ old.at
  pub fault : new.fault ≡ None

-- with these bytes its line isn't fit
pub record TurnsBad (old : Framing) (piece : List ℕ) (new : Framing) : Type 0 where
  pub wrong : LineFault
  pub faulty : heading (old.rest ++ piece) ≡ Faulty wrong
  pub waiting : new.waiting ≡ old.waiting
  pub at : new.at ≡ old.at
  pub fault : new.fault ≡ Some (placed_fault old.at wrong)

-- so many bytes of the piece are taken, which are all where they make no message
abbrev pub LeadsOn : Framing → List ℕ → Framing → ℕ → Type 0
LeadsOn old piece new used = (used ≤ length piece)
    × (((0 < used) × MakesWhole old (take used piece) new)
    ⊎ ((used ≡ length piece) × (StaysShort old piece new ⊎ TurnsBad old piece new)))

-- by the answer: what the bytes that were taken do, the fault, or nothing has changed
abbrev pub FeedsFirst : Framing → List ℕ → Framing → Result ℕ FeedError → Type 0
FeedsFirst old piece new (Ok used) = LeadsOn old piece new used × (new.fault ≡ None)
FeedsFirst old piece new (Err (Frame fault)) = (new.fault ≡ Some fault)
    × ((new ≡ old) ⊎ TurnsBad old piece new)
FeedsFirst old piece new (Err NoMemory) = new ≡ old
