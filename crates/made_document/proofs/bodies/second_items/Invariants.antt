-- The items so far are made.
use Rattle.std.proofs.Common.{◌≡◌, map, filter}
use Rattle.std.specs.List.{range_with_len}
use Rattle.message_values.specs.Bodies.{item_body}
use Rattle.made_document.specs.Messages.{is_third, second_item}
use Rattle.made_document.proofs.bodies.second_items.Given as goal

abbrev pub invariant-nodes : goal.invariant-nodes
invariant-nodes l = l.items ≡ map item_body (map second_item (filter is_third (range_with_len 1 l.before)))
