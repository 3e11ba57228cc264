-- What a reader of messages answers.
use Rattle.std.specs.Prelude.{◌≡◌, Result, Ok, Err}
use Rattle.message_values.specs.declared.fault.ShapeFault.{ShapeFault}
use Rattle.message_values.specs.declared.fault.ShapeFault.TheVariants as shape
use Rattle.message_values.specs.declared.refusal.Refusal.{Refusal}
use Rattle.message_values.specs.declared.refusal.Refusal.TheVariants.{BadData}
use Rattle.pide_messages.specs.declared.error.ReadError.{ReadError}
use Rattle.pide_messages.specs.declared.error.ReadError.TheVariants.{Refused, NoMemory}

-- what is told, or why it is refused, unless memory ran out
abbrev pub Gives : {A : Type 0} → Result A ReadError → Result A Refusal → Type 0
Gives (Ok value) told = told ≡ Ok value
Gives (Err (Refused reason)) told = told ≡ Err reason
Gives (Err NoMemory) told = Unit {0}

-- another shape is bad data
abbrev pub shape_error : ShapeFault → ReadError
shape_error shape.WrongShape = Refused BadData
shape_error shape.NoMemory = NoMemory
