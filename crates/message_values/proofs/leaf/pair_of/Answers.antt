-- By whether two nodes stand first, and whether more does.
use Rattle.message_values.proofs.KnownLent.{says_no, pair_without_first, pair_without_second, pair_there, pair_with_more}
use Rattle.message_values.proofs.leaf.pair_of.Goals as goal

pub returns-in_default : goal.returns-in_default
returns-in_default c = pair_without_first c.args.body c.in_default.ensures

pub returns-in_default-take_node : goal.returns-in_default-take_node
returns-in_default-take_node c = pair_without_second c.args.body c.in-Some.first c.take_node.new.body c.in-Some.ensures c.in_default-take_node.ensures

pub returns-then-is_empty : goal.returns-then-is_empty
returns-then-is_empty c = pair_there c.args.body c.in-Some.first c.take_node.new.body c.in-Some-take_node.second c.take_node-2.new.body
    c.in-Some.ensures c.in-Some-take_node.ensures (c.is_empty.ensures.0 c.if-is_empty.true)

pub returns-else-is_empty : goal.returns-else-is_empty
returns-else-is_empty c = pair_with_more c.args.body c.in-Some.first c.take_node.new.body c.in-Some-take_node.second c.take_node-2.new.body
    c.in-Some.ensures c.in-Some-take_node.ensures (says_no c.is_empty.result c.is_empty.ensures c.if-is_empty.false)
