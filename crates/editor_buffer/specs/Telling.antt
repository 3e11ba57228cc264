-- What a call tells of a step that may be refused (this project's own).
use Rattle.std.specs.Prelude.{◌≡◌, Result, Ok, Err}
use Rattle.message_values.specs.declared.refusal.Refusal.{Refusal}
use Rattle.editor_buffer.specs.declared.fault.PrepareError.{PrepareError}
use Rattle.editor_buffer.specs.declared.fault.PrepareError.TheVariants.{Refused, NoMemory}

-- what an error tells: a refusal is the step's, and want of memory tells nothing
abbrev pub TellsError : {B : Type 0} → PrepareError → Result B Refusal → Type 0
TellsError (Refused refusal) step = step ≡ Err refusal
TellsError NoMemory step = Unit {0}

-- the answer is the step's, but for want of memory
abbrev pub Tells : {A B : Type 0} → (A → B) → Result A PrepareError → Result B Refusal → Type 0
Tells view (Ok made) step = step ≡ Ok (view made)
Tells view (Err error) step = TellsError error step
