use Rattle.std.proofs.Common.{◌≡◌, ◌++◌, length, map}
use Rattle.std.specs.List.{filter_map}
use Rattle.isar_rules.specs.Starts.{imported_facts}
use Rattle.toplevel.proofs.starting.parts_of.Given as goal

abbrev pub invariant-imports : goal.invariant-imports
invariant-imports l = map (λ part. part.now) l.parts.items ++ filter_map imported_facts l.rest
    ≡ filter_map imported_facts l.fn.imports

abbrev pub decreases-imports : goal.decreases-imports
decreases-imports l = length l.rest
