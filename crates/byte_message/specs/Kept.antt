-- What a decoder stands for, after a stream of which these messages were taken.
use Rattle.std.specs.Prelude.{◌≡◌, ℕ, ◌+◌, List, [], ◌++◌, length, Option, Some, None}
use Rattle.byte_message.specs.Heading.{heading}
use Rattle.byte_message.specs.Heading.Heading.{Faulty}
use Rattle.byte_message.specs.Stream.{AreSpelled, told_place, placed_fault, IsShort}
use Rattle.byte_message.specs.declared.line_fault.LineFault.{LineFault}
use Rattle.byte_message.specs.declared.frame_fault.FrameFault.{FrameFault}

-- whole messages that wait to be taken, the place after them, the bytes of the message in
-- progress, and the fault (this project's own)
pub record Framing : Type 0 where
  pub waiting : List (List (List ℕ))
  pub at : ℕ
  pub rest : List ℕ
  pub fault : Option FrameFault

-- from bytes with these messages before them, to a rest with more messages before it
pub record Reached (before : List (List (List ℕ))) (from : ℕ) (bytes : List ℕ)
    (after : List (List (List ℕ))) (to : ℕ) (rest : List ℕ) : Type 0 where
  pub front : List ℕ
  pub more : List (List (List ℕ))
  pub whole : bytes ≡ front ++ rest
  pub spelled : AreSpelled front more
  pub made : after ≡ before ++ more
  pub place : to ≡ told_place (from + length front)

-- a rest is kept, less than a message, or judged as a fault
abbrev pub KeepsRest : Option FrameFault → ℕ → List ℕ → List ℕ → Type 0
KeepsRest None at rest kept = (rest ≡ kept) × IsShort rest
KeepsRest (Some fault) at rest kept =
    (wrong : LineFault) × (heading rest ≡ Faulty wrong) × (fault ≡ placed_fault at wrong)

-- the decoder has read this stream, and handed out the messages that were taken: those that
-- wait come next (this project's own)
pub record Stands (stream : List ℕ) (taken : List (List (List ℕ))) (now : Framing) : Type 0 where
  pub rest : List ℕ
  pub reached : Reached [] 0 stream (taken ++ now.waiting) now.at rest
  pub kept : KeepsRest now.fault now.at rest now.rest

-- one piece more, and messages made of it
pub record Advances (old : Framing) (piece : List ℕ) (new : Framing) : Type 0 where
  pub made : List (List (List ℕ))
  pub rest : List ℕ
  pub reached : Reached [] old.at (old.rest ++ piece) made new.at rest
  pub waiting : new.waiting ≡ old.waiting ++ made
  pub kept : KeepsRest new.fault new.at rest new.rest
