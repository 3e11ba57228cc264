-- The messages of a stream, and how it ends.
use Rattle.std.specs.Prelude.{◌≡◌, ℕ, ◌-◌, ◌^◌, ◌<◌, ◌≤◌, min, sum, List, [], ◌∷◌, ◌++◌, length, map, ◌⊎◌}
use Rattle.std.specs.Fmt.{decimal}
use Rattle.std.specs.List.{AllByRecursion, concat, join_with_byte}
use Rattle.byte_message.specs.Heading.{heading}
use Rattle.byte_message.specs.Heading.Heading.{Fit, Faulty, Unended}
use Rattle.byte_message.specs.Limits.{most_chunks, longest_chunk}
use Rattle.byte_message.specs.declared.line_fault.LineFault.{LineFault}
use Rattle.byte_message.specs.declared.line_fault.LineFault.TheVariants.{BadHeader, TooMany, TooLong}
use Rattle.byte_message.specs.declared.frame_fault.FrameFault.{FrameFault}
use Rattle.byte_message.specs.declared.frame_fault.FrameFault.TheVariants as frame

-- a fit line, its newline, and chunks of the line's lengths (Isabelle's byte messages)
abbrev pub IsSpelling : List ℕ → List (List ℕ) → Type 0
IsSpelling bytes message = heading bytes ≡ Fit (map length message) (concat message)

-- spellings of these messages, one after the other
abbrev pub AreSpelled : List ℕ → List (List (List ℕ)) → Type 0
AreSpelled bytes [] = bytes ≡ []
AreSpelled bytes (message ∷ messages) = (front : List ℕ) × (rest : List ℕ)
    × (bytes ≡ front ++ rest) × IsSpelling front message × AreSpelled rest messages

-- a place in a stream, as a number of 64 bits tells it
abbrev pub told_place : ℕ → ℕ
told_place place = min place (2 ^ 64 - 1)

-- a line's fault, with the place where its message begins
abbrev pub placed_fault : ℕ → LineFault → FrameFault
placed_fault at BadHeader = frame.BadHeader at
placed_fault at (TooMany count) = frame.TooMany at count
placed_fault at (TooLong chunk) = frame.TooLong at chunk

-- how a stream ends: between messages, at a judged line that isn't fit, or within a message
pub data Ending : Type 0 where
  Whole : Ending
  Bad : FrameFault → Ending
  Short : ℕ → Ending

-- fewer bytes than a message has: an unended line, or fewer bytes after it than its chunks have
abbrev pub IsShort : List ℕ → Type 0
IsShort rest = (heading rest ≡ Unended)
    ⊎ ((lengths : List ℕ) × (body : List ℕ)
    × (heading rest ≡ Fit lengths body) × (length body < sum lengths))

-- what follows the last whole message, from this place on, ends so
abbrev pub EndsAs : ℕ → List ℕ → Ending → Type 0
EndsAs place rest Whole = rest ≡ []
EndsAs place rest (Bad fault) =
    (wrong : LineFault) × (heading rest ≡ Faulty wrong) ×
    (fault ≡ placed_fault (told_place place) wrong)
EndsAs place rest (Short at) = (0 < length rest) × IsShort rest × (at ≡ told_place place)

-- these are the messages of the stream, and this is its ending
pub record IsReadAs (stream : List ℕ) (messages : List (List (List ℕ)))
    (ending : Ending) : Type 0 where
  pub front : List ℕ
  pub rest : List ℕ
  pub whole : stream ≡ front ++ rest
  pub spelled : AreSpelled front messages
  pub ends : EndsAs (length front) rest ending

-- some chunks, not too many, and none too long (this project's own limits)
pub record IsMessage (chunks : List (List ℕ)) : Type 0 where
  pub some : 1 ≤ length chunks
  pub few : length chunks ≤ most_chunks
  pub short : AllByRecursion (λ chunk. length chunk ≤ longest_chunk) chunks

-- the plain spelling: lengths without leading zeros joined by commas, a newline, the chunks
-- (Isabelle's byte messages)
abbrev pub plain_spelling : List (List ℕ) → List ℕ
plain_spelling chunks =
    join_with_byte 44 (map (λ chunk. decimal (length chunk)) chunks) ++ (10 ∷ concat chunks)
