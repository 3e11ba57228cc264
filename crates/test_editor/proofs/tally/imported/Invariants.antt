use Rattle.std.proofs.Common.{◌≡◌, length}
use Rattle.test_editor.specs.Tally.{imported}
use Rattle.test_editor.proofs.tally.imported.Given as goal

abbrev pub invariant-imports : goal.invariant-imports
invariant-imports l = imported l.sum l.rest ≡ imported l.fn.number l.fn.imports

abbrev pub decreases-imports : goal.decreases-imports
decreases-imports l = length l.rest
