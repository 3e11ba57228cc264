-- How far an execution is.
use Rattle.std.specs.Prelude.{Bool, true, false, ◌||◌, Option, Some, None}
use Rattle.pide_base.specs.declared.part.PartKind.{PartKind}
use Rattle.pide_base.specs.declared.part.PartKind.TheVariants as kind
use Rattle.core_tables.specs.declared.execution.Execution.{Execution}
use Rattle.core_tables.specs.declared.execution.Progress.{Progress}
use Rattle.core_tables.specs.declared.execution.Progress.TheVariants as progress

-- all parts are finished (this project's own)
abbrev pub is_done : {R : Type 0} → Progress R → Bool
is_done progress.Evaluating = false
is_done (progress.Forking eval) = false
is_done (progress.Evaluated eval) = true
is_done (progress.Forked eval fork) = true
is_done progress.Printing = false
is_done (progress.Printed print) = true

-- nothing is left to cancel: it is cancelled already, or all its parts are finished
abbrev pub is_idle : {R : Type 0} → Execution R → Bool
is_idle execution = execution.cancelled || is_done execution.progress

-- the result of the part of this kind, where it is finished
abbrev pub result_of : {R : Type 0} → PartKind → Progress R → Option R
result_of kind.Eval (progress.Forking eval) = Some eval
result_of kind.Eval (progress.Evaluated eval) = Some eval
result_of kind.Eval (progress.Forked eval fork) = Some eval
result_of kind.Fork (progress.Forked eval fork) = Some fork
result_of kind.Print (progress.Printed print) = Some print
result_of kind p = None
