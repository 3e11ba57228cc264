-- What is read of a source that has one text (this project's own).
use Rattle.std.specs.Prelude.{◌≡◌, ℕ, ◌+◌, ◌^◌, ◌≤◌, List, length, Option}
use Rattle.std.specs.Str.{IsUtf8, IsValidUpTo, chars}
use Rattle.std.specs.Io.KnownBytes.{Consumes, IsAtEnd}
use Rattle.pide_check.specs.declared.input.Input.{Input}
use Rattle.pide_check.specs.declared.input.Input.TheVariants as input

-- the most bytes of a text
abbrev pub most_bytes : ℕ
most_bytes = 2 ^ 24

-- the source had these bytes and then no more, and they are not too many
abbrev pub HadJust : List ℕ → Option (List ℕ) → Type 0
HadJust taken left = IsAtEnd left × (length taken ≤ most_bytes)

-- what was read, by the bytes that were taken and those that are left: a text, where the source had
-- its bytes in UTF-8 and no more; else the first byte that is in no whole character; or one byte
-- too many; or the source failed before that
abbrev pub ReadSo : Input → List ℕ → Option (List ℕ) → Type 0
ReadSo (input.Whole text) taken left = HadJust taken left × IsUtf8 taken × (text ≡ chars taken)
ReadSo (input.BadText at) taken left =
    HadJust taken left × (IsUtf8 taken → ⊥) × IsValidUpTo taken at
ReadSo input.LongInput taken left = length taken ≡ most_bytes + 1
ReadSo input.ReadFault taken left = length taken ≤ most_bytes

-- so many bytes were taken, or fewer
abbrev pub TookSo : Option (List ℕ) → Option (List ℕ) → ℕ → Type 0
TookSo old new most = (taken : List ℕ) × Consumes old new taken × (length taken ≤ most)

-- some bytes were taken, and what was read goes by them
abbrev pub IsRead : Input → Option (List ℕ) → Option (List ℕ) → Type 0
IsRead answer old new = (taken : List ℕ) × Consumes old new taken × ReadSo answer taken new
