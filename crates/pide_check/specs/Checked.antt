-- What a run that checks one text takes and writes, by its status (this project's own).
use Rattle.std.specs.Prelude.{◌≡◌, ℕ, ◌+◌, ◌≤◌, ◌⊎◌, List, length, Option, Some}
use Rattle.std.specs.Str.{IsUtf8, IsValidUpTo, chars}
use Rattle.std.specs.Io.KnownBytes.{Appends, Consumes, Keeps}
use Rattle.pide_base.specs.declared.status.Status.{Status}
use Rattle.pide_base.specs.declared.status.Status.TheVariants as status
use Rattle.pide_base.specs.Faults.{Rose}
use Rattle.pide_base.specs.Moves.{AppendsFront}
use Rattle.language.specs.Lang.{Lang}
use Rattle.text_check.specs.Lines.{lines}
use Rattle.pide_check.specs.Reading.{HadJust, most_bytes}

-- the source had a text of these bytes, and no more
abbrev pub HadText : List ℕ → Option (List ℕ) → Type 0
HadText taken left = HadJust taken left × IsUtf8 taken

-- what was taken: a text, where its lines were written or the sink failed; all bytes up to the end,
-- with the first that is in no whole character; one byte too many; or fewer, where the source
-- failed
abbrev pub TakesSo : Status → List ℕ → Option (List ℕ) → Type 0
TakesSo status.Done taken left = HadText taken left
TakesSo status.WriteFault taken left = HadText taken left
TakesSo (status.BadText at) taken left =
    HadJust taken left × (IsUtf8 taken → ⊥) × IsValidUpTo taken at
TakesSo status.LongInput taken left = length taken ≡ most_bytes + 1
TakesSo status.ReadFault taken left = length taken ≤ most_bytes
TakesSo status.NoMemory taken left = length taken ≤ most_bytes + 1
TakesSo _ taken left = ⊥

-- what was written: the lines of the text, or a front of them where the sink failed or memory is
-- short; else nothing
abbrev pub WritesSo : {S : Type 0} → Lang S → Status → List ℕ → Option (List ℕ) → Option (List ℕ)
    → Type 0
WritesSo l status.Done taken old new = Appends old new (lines l (chars taken))
WritesSo l status.WriteFault taken old new = AppendsFront old new (lines l (chars taken))
WritesSo l status.NoMemory taken old new = AppendsFront old new (lines l (chars taken))
WritesSo l _ taken old new = Keeps old new

-- a run: some bytes are taken, and what is written goes by them
abbrev pub IsChecked : {S : Type 0} → Lang S → Status → Option (List ℕ) → Option (List ℕ)
    → Option (List ℕ) → Option (List ℕ) → Type 0
IsChecked l s left left' held held' = (taken : List ℕ) × Consumes left left' taken
    × TakesSo s taken left' × WritesSo l s taken held held'

-- where the source has a text, and no count rises, all its lines are written, or memory is short
abbrev pub ChecksWhole : Option (List ℕ) → ℕ → ℕ → ℕ → ℕ → Status → Type 0
ChecksWhole left pulls pulls' pushes pushes' s =
    (bytes : List ℕ) → left ≡ Some bytes → IsUtf8 bytes → length bytes ≤ most_bytes
    → (Rose pulls pulls' → ⊥) → (Rose pushes pushes' → ⊥)
    → (s ≡ status.Done) ⊎ (s ≡ status.NoMemory)
