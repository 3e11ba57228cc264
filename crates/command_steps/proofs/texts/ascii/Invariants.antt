use Rattle.std.proofs.Common.{◌≡◌, ◌++◌, length}
use Rattle.std.specs.String.{string_bytes}
use Rattle.command_steps.proofs.texts.ascii.Given as goal

abbrev pub invariant-scalars : goal.invariant-scalars
invariant-scalars l = string_bytes l.text ++ l.rest ≡ l.fn.scalars

abbrev pub decreases-scalars : goal.decreases-scalars
decreases-scalars l = length l.rest
