-- What has been read, and then what is read of those that are left, is what is read of all.
use Rattle.std.proofs.Common.{◌≡◌, length}
use Rattle.message_values.specs.Shapes.{items_in}
use Rattle.message_values.proofs.KnownLent.{behind}
use Rattle.message_values.proofs.shape.list_of.Given as goal

abbrev pub invariant-items : goal.invariant-items
invariant-items g l = items_in g.T.Shape.shape l.initial.body ≡ behind l.items (items_in g.T.Shape.shape l.body)

abbrev pub decreases-items : goal.decreases-items
decreases-items g l = length l.body
