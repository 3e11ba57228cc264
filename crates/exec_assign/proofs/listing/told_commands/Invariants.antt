use Rattle.std.proofs.Common.{◌≡◌, ◌++◌, map, drop}
use Rattle.exec_rules.specs.Listed.{told_commands}
use Rattle.exec_assign.specs.Told.{told_command}
use Rattle.exec_assign.proofs.listing.told_commands.Given as goal

abbrev pub invariant-commands : goal.invariant-commands
invariant-commands l = map told_command l.all ++ told_commands (drop l.place l.entries) (drop l.place l.rows) ≡ told_commands l.entries l.rows
