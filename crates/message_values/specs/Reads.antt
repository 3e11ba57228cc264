-- What a reader answers.
use Rattle.std.specs.Prelude.{◌≡◌, Option, Some, None, Result, Ok, Err}
use Rattle.message_values.specs.declared.fault.ShapeFault.{ShapeFault}
use Rattle.message_values.specs.declared.fault.ShapeFault.TheVariants.{WrongShape, NoMemory}

-- the value that is found, or that there is none, unless memory ran out
abbrev pub Reads : {A : Type 0} → Result A ShapeFault → Option A → Type 0
Reads (Ok value) found = found ≡ Some value
Reads (Err WrongShape) found = found ≡ None
Reads (Err NoMemory) found = Unit {0}
