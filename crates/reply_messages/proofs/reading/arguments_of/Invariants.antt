-- The chunks so far, and those that are left, are all behind the first.
use Rattle.std.proofs.Common.{◌≡◌, ◌++◌, drop}
use Rattle.reply_messages.specs.FoundReplies.{texts}
use Rattle.reply_messages.proofs.reading.arguments_of.Given as goal

abbrev pub invariant-chunks : goal.invariant-chunks
invariant-chunks l = texts l.arguments.items ++ drop l.number l.message ≡ drop 1 l.message
