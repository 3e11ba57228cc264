-- What the parts of a decoder stand for.
use Rattle.std.specs.Prelude.{◌≡◌, ℕ, ◌+◌, ◌≤◌, length}
use Rattle.std.specs.VecDeque.{deque_len, deque_capacity}
use Rattle.byte_message.specs.Kept.{Framing}
use Rattle.byte_message.specs.Parts.{rest_of, fault_of}
use Rattle.byte_message.specs.declared.part.Part.{Part}
use Rattle.byte_message.specs.declared.part.Part.TheVariants.{Line, Chunks, Bad}
use Rattle.byte_message.specs.declared.state.State.{State}

-- the decoder's model
abbrev pub framing : State → Framing
framing state =
    record {
      waiting = state.waiting.items;
      at = state.at;
      rest = rest_of state.part;
      fault = fault_of state.part;
    }

-- a line that hasn't ended is kept
abbrev pub HoldsLine : Part → Type 0
HoldsLine (Line line) = Unit {0}
HoldsLine (Chunks chunks) = ⊥
HoldsLine (Bad fault) = ⊥

-- a fit line is kept, and fewer bytes than its chunks have
abbrev pub HoldsChunks : Part → Type 0
HoldsChunks (Line line) = ⊥
HoldsChunks (Chunks chunks) = Unit {0}
HoldsChunks (Bad fault) = ⊥

-- so many messages more wait
abbrev pub GrowsBy : State → State → ℕ → Type 0
GrowsBy old new made = length new.waiting.items ≡ length old.waiting.items + made

-- room for this many more to wait
abbrev pub HasRoom : State → ℕ → Type 0
HasRoom state more = deque_len state.waiting + more ≤ deque_capacity state.waiting
