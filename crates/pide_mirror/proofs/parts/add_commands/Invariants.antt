-- The parts so far and those of the rest are all, and so are their executions.
use Rattle.std.proofs.Common.{◌≡◌, ◌++◌, map, length}
use Rattle.std.specs.List.{AllByRecursion}
use Rattle.pide_mirror.specs.Tables.{table_of}
use Rattle.pide_mirror.specs.KeptNodes.{HasId}
use Rattle.pide_mirror.specs.NodeParts.{as_shown, commands_kept}
use Rattle.pide_mirror.proofs.parts.add_commands.Given as goal

abbrev pub invariant-each : goal.invariant-each
invariant-each l = record {
  parts : map as_shown l.parts ++ commands_kept (table_of l.places) l.aliases l.commands l.rest
      ≡ map as_shown l.fn.parts ++ commands_kept (table_of l.places) l.aliases l.entries l.rows;
  executions : AllByRecursion HasId (commands_kept (table_of l.places) l.aliases l.commands l.rest)
      → AllByRecursion HasId (commands_kept (table_of l.places) l.aliases l.entries l.rows);
}

abbrev pub decreases-each : goal.decreases-each
decreases-each l = length l.commands
