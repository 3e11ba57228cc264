-- Answers of jobs that may be stopped.
use Rattle.std.specs.Prelude.{◌≡◌, ℕ}
use Rattle.pide_base.specs.Faults.{Rose}
use Rattle.language.specs.declared.answer.Answer.{Answer}
use Rattle.language.specs.declared.answer.Answer.TheVariants.{Given, Stopped, NoMemory}

-- what is given is the value, and it was stopped only where a yes came: the count of yeses rose
abbrev pub IsAnswer : {T : Type 0} → Answer T → T → ℕ → ℕ → Type 0
IsAnswer (Given answer) value before now = answer ≡ value
IsAnswer Stopped value before now = Rose before now
IsAnswer NoMemory value before now = Unit {0}
