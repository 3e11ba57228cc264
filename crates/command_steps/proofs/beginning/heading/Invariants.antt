use Rattle.std.proofs.Common.{◌≡◌, ◌∷◌, ◌++◌, length, map}
use Rattle.isar_rules.specs.Reports.{theory_report, import_report}
use Rattle.command_steps.proofs.beginning.heading.Given as goal

abbrev pub invariant-imports : goal.invariant-imports
invariant-imports l = l.reports ++ map import_report l.rest ≡ theory_report l.fn.name ∷ map import_report l.fn.imports

abbrev pub decreases-imports : goal.decreases-imports
decreases-imports l = length l.rest
