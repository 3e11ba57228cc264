use Rattle.std.proofs.Common.{◌≡◌, ◌++◌, length}
use Rattle.std.specs.Prelude.{map}
use Rattle.doc_nodes.specs.Imports.{aims_of, aims}
use Rattle.doc_nodes.proofs.graph.all_aims.Given as goal

abbrev pub invariant-nodes : goal.invariant-nodes
invariant-nodes l = l.rows.items ++ map (λ pair. aims_of l.nodes pair.1) l.rest ≡ aims l.nodes

abbrev pub decreases-nodes : goal.decreases-nodes
decreases-nodes l = length l.rest
