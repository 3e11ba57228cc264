-- Which refusal an item tells.
use Rattle.std.proofs.Common.{Result, ap}
use Rattle.editor_buffer.specs.declared.fault.PrepareError.{PrepareError}
use Rattle.editor_buffer.specs.declared.fault.PrepareError.TheVariants.{Refused, NoMemory}
use Rattle.editor_buffer.specs.Telling.{TellsError}
use Rattle.buffer_rules.specs.Trying.{◌>>=◌}
use Rattle.message_values.specs.declared.refusal.Refusal.{Refusal}

-- a refusal of the first step is that of both
pub told_then : {A B : Type 0} (e : PrepareError) (r : Result A Refusal) (f : A → Result B Refusal) → TellsError e r → TellsError e (r >>= f)
told_then (Refused refusal) r f told = ap (λ s. s >>= f) told
told_then NoMemory r f told = tt
