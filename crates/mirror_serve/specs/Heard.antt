-- What hears replies, in bytes (this project's own).
use Rattle.std.specs.Prelude.{◌≡◌, ◌⊎◌, ℕ, List, [], ◌∷◌, ◌++◌, Option, Some, None, slice_get, ⊤}
use Rattle.std.specs.List.{AllByRecursion}
use Rattle.byte_message.specs.Long.{long_lengths}
use Rattle.byte_message.specs.Stream.{plain_spelling}
use Rattle.mirror_rules.specs.declared.fault.MirrorFault.{MirrorFault}
use Rattle.mirror_rules.specs.Moves.{mirrored}
use Rattle.mirror_rules.specs.Small.{fault_in}
use Rattle.pide_mirror.specs.Feeding.{Hears, HearsFront}
use Rattle.pide_mirror.specs.Hearing.{Hearing}
use Rattle.mirror_serve.specs.declared.ear.Unheard.{Unheard}
use Rattle.mirror_serve.specs.declared.ear.Unheard.TheVariants.{LongChunk, Fault, NoMemory}

-- it is told of these bytes, if they spell a message, how long its first chunk is that is too long
abbrev pub TellsLong : List ℕ → Option ℕ → Type 0
TellsLong bytes found = (chunks : List (List ℕ)) → bytes ≡ plain_spelling chunks
    → found ≡ slice_get (long_lengths chunks) 0

-- a reply without such a chunk was heard, and there was no fault
pub record HearsOne (old : Hearing) (bytes : List ℕ) (new : Hearing) : Type 0 where
  pub short : TellsLong bytes None
  pub count : ℕ
  pub hears : Hears old bytes count new
  pub fine : new.ended ≡ None

-- such replies were heard one after the other
abbrev pub HearsAll : Hearing → List (List ℕ) → Hearing → Type 0
HearsAll old [] new = new ≡ old
HearsAll old (bytes ∷ more) new =
    (next : Hearing) × HearsOne old bytes next × HearsAll next more new

-- of a reply without such a chunk a front was heard, and is at fault
pub record FaultsAt (old : Hearing) (bytes : List ℕ) : Type 0 where
  pub short : TellsLong bytes None
  pub new : Hearing
  pub front : HearsFront old bytes new
  pub fault : MirrorFault
  pub is : fault_in (mirrored new.mode new.moves) ≡ Some fault

-- so is one of these, behind those that were heard
abbrev pub MeetsFault : Hearing → List (List ℕ) → Type 0
MeetsFault old [] = ⊥
MeetsFault old (bytes ∷ more) = FaultsAt old bytes
    ⊎ ((next : Hearing) × HearsOne old bytes next × MeetsFault next more)

-- a reply isn't heard for its long chunk, for its fault, or for want of memory
abbrev pub StopsAt : Unheard → Hearing → List ℕ → Type 0
StopsAt (LongChunk len) old bytes = TellsLong bytes (Some len)
StopsAt Fault old bytes = FaultsAt old bytes
StopsAt NoMemory old bytes = ⊤

-- the first of these replies that has a long chunk has it of this length
pub record IsFirstLong (replies : List (List ℕ)) (len : ℕ) : Type 0 where
  pub before : List (List ℕ)
  pub bytes : List ℕ
  pub after : List (List ℕ)
  pub parts : replies ≡ before ++ bytes ∷ after
  pub short : AllByRecursion (λ b. TellsLong b None) before
  pub long : TellsLong bytes (Some len)

-- all replies were heard, or it is told why not all were: for the first long one, for one at fault,
-- or for want of memory
abbrev pub HearsSo : Option Unheard → Hearing → List (List ℕ) → Option Unheard → Hearing → Type 0
HearsSo before old replies None new = (before ≡ None) × HearsAll old replies new
HearsSo before old replies (Some (LongChunk len)) new =
    (before ≡ Some (LongChunk len)) ⊎ ((before ≡ None) × IsFirstLong replies len)
HearsSo before old replies (Some Fault) new =
    (before ≡ Some Fault) ⊎ ((before ≡ None) × MeetsFault old replies)
HearsSo before old replies (Some NoMemory) new = ⊤
