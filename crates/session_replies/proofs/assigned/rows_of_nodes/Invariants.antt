use Rattle.std.proofs.Common.{◌≡◌, ◌++◌, drop, map}
use Rattle.exec_assign.specs.Told.{told_node}
use Rattle.session_replies.specs.Assigned.{nodes_told, node_of}
use Rattle.session_replies.proofs.assigned.rows_of_nodes.Given as goal

abbrev pub invariant-nodes : goal.invariant-nodes
invariant-nodes l = map node_of l.all.items ++ nodes_told (map told_node (drop l.node-index l.nodes)) ≡ nodes_told (map told_node l.nodes)
