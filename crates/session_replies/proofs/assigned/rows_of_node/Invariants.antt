use Rattle.std.proofs.Common.{◌≡◌, ◌++◌, drop, map}
use Rattle.reply_messages.specs.Lent.{row_of}
use Rattle.exec_assign.specs.Told.{told_command}
use Rattle.session_replies.specs.Assigned.{command_told}
use Rattle.session_replies.proofs.assigned.rows_of_node.Given as goal

abbrev pub invariant-commands : goal.invariant-commands
invariant-commands l = map row_of l.rows ++ map command_told (map told_command (drop l.told-index l.commands)) ≡ map command_told (map told_command l.commands)
