-- The values so far, and then those that are left, are the values of all.
use Rattle.std.proofs.Common.{◌≡◌, length}
use Rattle.message_values.specs.Shapes.{values_from}
use Rattle.message_values.proofs.KnownLent.{behind}
use Rattle.message_values.proofs.variant.values_of.Given as goal

abbrev pub invariant-values : goal.invariant-values
invariant-values l = values_from 0 l.initial.attributes ≡ behind l.values (values_from (length l.values) l.attributes)

abbrev pub decreases-values : goal.decreases-values
decreases-values l = length l.attributes
