use Rattle.std.proofs.Common.{◌≡◌, length, zip}
use Rattle.pide_build.specs.Handed.{bad_by}
use Rattle.pide_build.proofs.imports.first_bad.Given as goal

-- the first bad one is among those that are left
abbrev pub invariant-imports : goal.invariant-imports
invariant-imports l = bad_by l.graph.marks (zip l.more l.rest) ≡ bad_by l.graph.marks (zip l.names l.aims)

abbrev pub decreases-imports : goal.decreases-imports
decreases-imports l = length l.more
