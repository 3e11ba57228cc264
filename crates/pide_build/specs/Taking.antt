-- What taking a message tells (this project's own).
use Rattle.std.specs.Prelude.{◌≡◌, Result, Ok, Err}
use Rattle.std.specs.declared.alloc.AllocError.{AllocError}
use Rattle.message_values.specs.declared.refusal.Refusal.{Refusal}
use Rattle.pide_build.specs.declared.theories.Taken.{Taken}
use Rattle.pide_build.specs.declared.theories.Taken.TheVariants.{Kept, Refused}
use Rattle.pide_build.specs.Theories.{TheoryList}

-- the theories become what a message makes of them, or it is refused, or memory was short: then
-- they are as they were
abbrev pub TakesSo : Result Taken AllocError → Result TheoryList Refusal → TheoryList → TheoryList
    → Type 0
TakesSo (Ok Kept) made old new = made ≡ Ok new
TakesSo (Ok (Refused reason)) made old new = (made ≡ Err reason) × (new ≡ old)
TakesSo (Err error) made old new = new ≡ old
