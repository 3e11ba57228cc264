-- The graph of a version's nodes.
use Rattle.std.specs.Prelude.{◌≡◌}
use Rattle.doc_nodes.specs.Looks.{AreMarks}
use Rattle.doc_nodes.specs.Graph.{Graph}
use Rattle.doc_nodes.specs.Imports.{NodeList, aims, ordered_places, order}

-- the graph is that of these nodes
pub record IsGraphOf (nodes : NodeList) (graph : Graph) : Type 0 where
  pub aims_are : graph.aims ≡ aims nodes
  pub order_is : graph.order ≡ order nodes
  pub marks_are : AreMarks graph.marks (ordered_places nodes)
