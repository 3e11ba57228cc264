-- What is told of a cancellation.
use Rattle.std.specs.Prelude.{ℕ}
use Rattle.core_tables.specs.declared.execs.Cancelling.{Cancelling}
use Rattle.core_tables.specs.declared.execs.Cancelling.TheVariants as answer
use Rattle.message_values.specs.declared.refusal.Refusal.TheVariants.{UnknownExecution}
use Rattle.reply_messages.specs.declared.told.Told.{Told}
use Rattle.reply_messages.specs.declared.told.Told.TheVariants as tells

-- by what asking the core to cancel came to
abbrev pub cancelling_told : ℕ → Cancelling → Told
cancelling_told exec answer.Unknown = tells.Refused UnknownExecution
cancelling_told exec answer.Idle = tells.Idle exec
cancelling_told exec answer.Cancelled = tells.Cancelled exec
