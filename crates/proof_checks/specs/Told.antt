-- How a check that is done is told.
use Rattle.std.specs.Prelude.{◌≡◌, ⊤, Result, Ok, Err}
use Rattle.nj_kernel.specs.declared.thm.Thm.{Thm}
use Rattle.proof_checks.specs.declared.checked.Checked.{Checked}
use Rattle.proof_checks.specs.declared.checked.Checked.TheVariants as C
use Rattle.proof_checks.specs.declared.halt.Halt.{Halt}
use Rattle.proof_checks.specs.declared.halt.Halt.TheVariants.{Wrong, Stopped, NoMemory}

-- a theorem, or why there is none
abbrev pub Tells : Result Thm Halt → Checked → Type 0
Tells (Ok t) (C.Proved u) = u ≡ t
Tells (Err (Wrong fault)) (C.Wrong other) = other ≡ fault
Tells (Err Stopped) C.Stopped = ⊤
Tells (Err NoMemory) C.NoMemory = ⊤
Tells _ _ = ⊥
