-- One item more is read, or there is none.
use Rattle.std.proofs.Common.{rules, sym, ap, ◌∙◌}
use Rattle.message_values.specs.Shapes.{items_in}
use Rattle.message_values.proofs.KnownFaults.{part_passed}
use Rattle.message_values.proofs.KnownLent.{behind, items_next, items_other, items_broken}
use Rattle.message_values.proofs.shape.list_of.Goals as goal

pub returns-in_default : goal.returns-in_default
returns-in_default g c = items_broken g.T.Shape.shape _ c.items.items c.items.body c.items.invariant (search rules) c.in_default.ensures

pub returns-in_err-value : goal.returns-in_err-value
returns-in_err-value g c = part_passed _ _ c.in_err-value.field-0.0 _ c.from_residual.ensures.1 c.in_err-value.ensures
    (λ missing. items_other g.T.Shape.shape _ c.items.items c.items.body c.in-Some.item c.take_node.new.body c.items.invariant c.in-Some.ensures missing)

pub items-preserved : goal.items-preserved
items-preserved g c =
    items_next g.T.Shape.shape _ c.items.items c.items.body c.in-Some.item c.take_node.new.body c.in_ok-value.value c.items.invariant c.in-Some.ensures c.in_ok-value.ensures
    ∙ ap (λ read. behind read (items_in g.T.Shape.shape c.take_node.new.body)) (sym c.in_ok-push.ensures.ok)
