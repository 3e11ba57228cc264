-- What finishing a part and cancelling an execution do.
use Rattle.std.specs.Prelude.{true, false, if◌then◌else◌, Option, Some, None}
use Rattle.std.specs.Option.{option_map}
use Rattle.core_tables.specs.declared.execution.Execution.{Execution}
use Rattle.core_tables.specs.declared.execution.Progress.{Progress}
use Rattle.core_tables.specs.declared.execution.Progress.TheVariants as progress
use Rattle.core_tables.specs.declared.execution.Done.{Done}
use Rattle.core_tables.specs.declared.execution.Done.TheVariants as done
use Rattle.core_tables.specs.declared.execs.Cancelling.{Cancelling}
use Rattle.core_tables.specs.declared.execs.Cancelling.TheVariants as answer
use Rattle.core_tables.specs.Progress.{is_idle}

-- how far it is once the part is finished, where that part is the next to finish: a fork comes
-- after its evaluation, where the command forks (this project's own)
abbrev pub finished : {R : Type 0} → Done R → Progress R → Option (Progress R)
finished (done.Eval result true) progress.Evaluating = Some (progress.Forking result)
finished (done.Eval result false) progress.Evaluating = Some (progress.Evaluated result)
finished (done.Fork result) (progress.Forking eval) = Some (progress.Forked eval result)
finished (done.Print result) progress.Printing = Some (progress.Printed result)
finished d p = None

-- nothing of a cancelled execution is finished any more
abbrev pub finished_in : {R : Type 0} → Done R → Execution R → Option (Execution R)
finished_in d execution =
    if execution.cancelled then None
    else option_map (λ p. record { cancelled = false; progress = p })
    (finished d execution.progress)

-- what asking to cancel answers
abbrev pub cancelling : {R : Type 0} → Option (Execution R) → Cancelling
cancelling None = answer.Unknown
cancelling (Some execution) = if is_idle execution then answer.Idle else answer.Cancelled

-- an execution that has an unfinished part is cancelled, any other stays as it is
abbrev pub after_cancelling : {R : Type 0} → Option (Execution R) → Option (Execution R)
after_cancelling None = None
after_cancelling (Some execution) =
    Some (if is_idle execution then execution else record execution { cancelled = true })
