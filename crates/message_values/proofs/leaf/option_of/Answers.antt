-- By whether a node stands first, and whether more does.
use Rattle.message_values.proofs.KnownLent.{says_no, option_without, option_there, option_with_more}
use Rattle.message_values.proofs.leaf.option_of.Goals as goal

pub returns-in_default : goal.returns-in_default
returns-in_default c = option_without c.args.body (says_no c.is_empty.result c.is_empty.ensures c.if-is_empty.false) c.in_default.ensures

pub returns-then-is_empty-2 : goal.returns-then-is_empty-2
returns-then-is_empty-2 c = option_there c.args.body c.in-Some.item c.take_node.new.body c.in-Some.ensures (c.is_empty-2.ensures.0 c.if-is_empty-2.true)

pub returns-else-is_empty-2 : goal.returns-else-is_empty-2
returns-else-is_empty-2 c = option_with_more c.args.body c.in-Some.item c.take_node.new.body c.in-Some.ensures
    (says_no c.is_empty-2.result c.is_empty-2.ensures c.if-is_empty-2.false)
