-- What a rule makes of the answer to its last part.
use Rattle.std.specs.Prelude.{◌≡◌, Result, Ok, Err}
use Rattle.nj_kernel.specs.declared.thm.Thm.{Thm}
use Rattle.proof_checks.specs.declared.halt.Halt.{Halt}
use Rattle.proof_checks.specs.Answers.{NotStopped}

-- a halt is handed on; where there was none, the rule does not stop
abbrev pub HandsOver : Result Thm Halt → Result Thm Halt → Type 0
HandsOver (Err halt) result = result ≡ Err halt
HandsOver (Ok t) result = NotStopped result
