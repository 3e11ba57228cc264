-- How bytes end, and the cause of each status (this project's own). The bytes taken are those
-- that were left before and no more after.
use Rattle.std.specs.Prelude.{◌≡◌, ◌≢◌, ℕ, ◌<◌, ◌≤◌, ◌⊎◌, List, Option, Some, length, ⊤}
use Rattle.std.specs.Io.KnownBytes.{Consumes, IsAtEnd}
use Rattle.pide_base.specs.Faults.{Rose}
use Rattle.pide_base.specs.declared.status.Status.{Status}
use Rattle.pide_base.specs.declared.status.Status.TheVariants as status
use Rattle.byte_message.specs.Stream.{Ending, IsReadAs}
use Rattle.byte_message.specs.Stream.Ending.{Whole, Bad, Short}
use Rattle.byte_message.specs.declared.frame_fault.FrameFault.{FrameFault}
use Rattle.byte_message.specs.declared.frame_fault.FrameFault.TheVariants as frame

-- where the message at fault begins
abbrev pub fault_place : FrameFault → ℕ
fault_place (frame.BadHeader at) = at
fault_place (frame.TooMany at count) = at
fault_place (frame.TooLong at chunk) = at

-- how bytes end, whatever their messages
abbrev pub HasEnding : List ℕ → Ending → Type 0
HasEnding bytes ending = (messages : List (List (List ℕ))) × IsReadAs bytes messages ending

-- the status tells how the bytes end: between messages, at a line at fault, or within a message.
-- They end at no fault where they are too many
abbrev pub Tells : Status → Ending → Type 0
Tells status.Done ending = ending ≡ Whole
Tells (status.BadFrame at) ending =
    (fault : FrameFault) × (ending ≡ Bad fault) × (at ≡ fault_place fault)
Tells (status.Truncated at) ending = ending ≡ Short at
Tells status.LongInput ending = (fault : FrameFault) → ending ≢ Bad fault
Tells _ ending = ⊤

-- done: the source ended, and the bytes taken end between messages
abbrev pub DoneSo : Option (List ℕ) → Option (List ℕ) → Type 0
DoneSo old new = (taken : List ℕ) × Consumes old new taken × IsAtEnd new × HasEnding taken Whole

-- truncated: the source ended, and the bytes taken end within the message that begins at this place
abbrev pub TruncatedSo : ℕ → Option (List ℕ) → Option (List ℕ) → Type 0
TruncatedSo at old new =
    (taken : List ℕ) × Consumes old new taken × IsAtEnd new × HasEnding taken (Short at)

-- no frame: the bytes taken end at a line at fault, whose message begins at this place
abbrev pub BadFrameSo : ℕ → Option (List ℕ) → Option (List ℕ) → Type 0
BadFrameSo at old new = (taken : List ℕ) × Consumes old new taken
    × ((fault : FrameFault) × HasEnding taken (Bad fault) × (at ≡ fault_place fault))

-- as many bytes as the limit says were taken, none of their lines at fault, or fewer; a run may
-- stop at the last of them too, by a line or by a message's answer
abbrev pub TakesSo : ℕ → Status → List ℕ → Type 0
TakesSo limit status.LongInput taken =
    (length taken ≡ limit) × ((fault : FrameFault) → HasEnding taken (Bad fault) → ⊥)
TakesSo limit (status.BadFrame at) taken = length taken ≤ limit
TakesSo limit status.WriteFault taken = length taken ≤ limit
TakesSo limit status.NoMemory taken = length taken ≤ limit
TakesSo limit (status.BadReply len) taken = length taken ≤ limit
TakesSo limit _ taken = length taken < limit

-- too long: just where as many bytes without a line at fault were taken as the limit says; else
-- fewer are taken, and never more. Where answering halts any number up to that may be
abbrev pub LongSo : ℕ → Status → Option (List ℕ) → Option (List ℕ) → Type 0
LongSo limit s old new = (taken : List ℕ) × Consumes old new taken × TakesSo limit s taken

-- each status has its cause, and neither words nor a text are at fault
pub record HasCause (limit : ℕ) (how : Status) (old new : Option (List ℕ)) : Type 0 where
  pub bad_frame : (at : ℕ) → how ≡ status.BadFrame at → BadFrameSo at old new
  pub truncated : (at : ℕ) → how ≡ status.Truncated at → TruncatedSo at old new
  pub long_input : LongSo limit how old new
  pub done : how ≡ status.Done → DoneSo old new
  pub no_text : (at : ℕ) → how ≢ status.BadText at
  pub no_words : how ≢ status.Usage

-- where the bytes end between messages and are fewer than the limit, and no count rises, the run is
-- done, or memory is short
abbrev pub CompleteSo : ℕ → Option (List ℕ) → ℕ → ℕ → ℕ → ℕ → Status → Type 0
CompleteSo limit left pulls pulls' pushes pushes' s =
    (bytes : List ℕ) → left ≡ Some bytes → HasEnding bytes Whole
    → length bytes < limit → (Rose pulls pulls' → ⊥) → (Rose pushes pushes' → ⊥)
    → (s ≡ status.Done) ⊎ (s ≡ status.NoMemory)
