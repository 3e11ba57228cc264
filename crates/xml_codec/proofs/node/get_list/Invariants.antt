-- The children that are left, the bodies of the nodes behind them, and what stands behind these, make up the body.
use Rattle.std.proofs.Common.{length}
use Rattle.xml_codec.proofs.Nodes.{Read}
use Rattle.xml_codec.proofs.node.get_list.Given as goal

abbrev pub invariant-loop-child : goal.invariant-loop-child
invariant-loop-child l = Read l.initial.body l.body l.reversed.items l.wrong

abbrev pub decreases-loop-child : goal.decreases-loop-child
decreases-loop-child l = length l.body
