-- What was counted, and what is left to count, make up the number.
use Rattle.std.proofs.Common.{◌≡◌, ◌+◌, length, drop}
use Rattle.core_rules.specs.Assigned.{command_ids}
use Rattle.pide_program.proofs.made.counting.commands_of.Given as goal

abbrev pub invariant-nodes : goal.invariant-nodes
invariant-nodes l = l.count + length (command_ids (drop l.place l.nodes)) ≡ length (command_ids l.fn.nodes)
