-- What one pull does to a reading.
use Rattle.std.specs.Prelude.{◌≡◌, ℕ, ◌+◌, ◌<◌, ◌≤◌, List, length, Option}
use Rattle.std.specs.Io.KnownBytes.{Consumes, IsAtEnd}
use Rattle.pide_check.specs.declared.reading.Step.{Step}
use Rattle.pide_check.specs.declared.reading.Step.TheVariants as step

-- the bytes grow by those that were taken, one at least and no more than fit the buffer; or they
-- stay
abbrev pub GrowSo : Step → List ℕ → List ℕ → ℕ → Type 0
GrowSo step.Took before now most =
    (length before < length now) × (length now ≤ length before + most)
GrowSo step.End before now most = now ≡ before
GrowSo step.Failed before now most = now ≡ before

-- the end comes only where no byte is left
abbrev pub EndsSo : Step → Option (List ℕ) → Type 0
EndsSo step.End left = IsAtEnd left
EndsSo _ left = Unit {0}

-- after it all bytes are those that were taken from the first on
abbrev pub StepSo : Step → Option (List ℕ) → Option (List ℕ) → List ℕ → List ℕ → ℕ → Type 0
StepSo s first left before now most =
    Consumes first left now × GrowSo s before now most × EndsSo s left
