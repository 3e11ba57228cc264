-- A child that is no node is the first so far.
use Rattle.xml_codec.proofs.Nodes.{read_other}
use Rattle.xml_codec.proofs.node.get_list.Goals as goal

pub loop-child-preserved : goal.loop-child-preserved
loop-child-preserved c = read_other _ _ _ _ _ _ _ _ c.loop-child.invariant c.in-Some.ensures c.in-None.ensures c.clear.ensures.items c.len.ensures
