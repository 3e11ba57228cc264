-- The parts so far and those of the rest are all, and so are their executions.
use Rattle.std.proofs.Common.{◌≡◌, ◌++◌, map, length}
use Rattle.std.specs.List.{AllByRecursion}
use Rattle.pide_base.specs.Ids.{IsId}
use Rattle.pide_mirror.specs.Tables.{table_of}
use Rattle.pide_mirror.specs.NodeParts.{as_shown, print_kept}
use Rattle.pide_mirror.proofs.parts.add_prints.Given as goal

abbrev pub invariant-each : goal.invariant-each
invariant-each l = record {
  parts : map as_shown l.parts ++ map (print_kept (table_of l.places) l.entry) l.rest
      ≡ map as_shown l.fn.parts ++ map (print_kept (table_of l.places) l.entry) l.prints;
  executions : AllByRecursion IsId l.rest → AllByRecursion IsId l.prints;
}

abbrev pub decreases-each : goal.decreases-each
decreases-each l = length l.rest
