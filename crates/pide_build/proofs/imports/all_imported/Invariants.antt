use Rattle.std.proofs.Common.{◌≡◌, ◌++◌, length, zip}
use Rattle.pide_build.specs.Handed.{imported_by}
use Rattle.pide_build.proofs.imports.all_imported.Given as goal

-- those so far, and those that are left
abbrev pub invariant-imports : goal.invariant-imports
invariant-imports g l = l.all ++ imported_by l.behind (zip l.more l.rest) ≡ imported_by l.behind (zip l.names l.aims)

abbrev pub decreases-imports : goal.decreases-imports
decreases-imports g l = length l.more
