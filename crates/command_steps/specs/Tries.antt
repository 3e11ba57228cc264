-- How what is tried ends (this project's own).
use Rattle.std.specs.Prelude.{◌≡◌, ⊤, ℕ, List, Result, Ok, Err, string_bytes}
use Rattle.isar_rules.specs.Errors.{Tried}
use Rattle.command_steps.specs.declared.halt.Halt.{Halt}
use Rattle.command_steps.specs.declared.halt.Halt.TheVariants.{Refused, NoMemory}

-- what is tried gives this, unless memory runs out
abbrev pub Tries : {A : Type 0} → Tried A → Result A Halt → Type 0
Tries told (Ok a) = told ≡ Ok a
Tries told (Err (Refused text)) = told ≡ Err (string_bytes text)
Tries told (Err NoMemory) = ⊤

-- the refusal has this text, unless memory runs out
abbrev pub Refuses : List ℕ → Halt → Type 0
Refuses text (Refused told) = string_bytes told ≡ text
Refuses text NoMemory = ⊤
