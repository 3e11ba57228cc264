-- The items that are left and the nodes that are made make up the body.
use Rattle.std.proofs.Common.{◌≡◌, ◌++◌, length}
use Rattle.std.specs.Prelude.{reverse}
use Rattle.xml_codec.specs.Data.{list_body}
use Rattle.xml_codec.proofs.node.put_list.Given as goal

abbrev pub invariant-loop-item : goal.invariant-loop-item
invariant-loop-item l = list_body l.items ++ reverse l.reversed.items ≡ list_body l.initial.items

abbrev pub decreases-loop-item : goal.decreases-loop-item
decreases-loop-item l = length l.items
