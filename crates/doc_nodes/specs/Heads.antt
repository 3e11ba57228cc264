-- The headers of nodes: what imports and aliases go by (this project's own).
use Rattle.std.specs.Prelude.{[], false, map}
use Rattle.doc_nodes.specs.declared.node.Node.{Node}
use Rattle.doc_nodes.specs.Imports.{NodeList}

-- a node's header, and nothing else of it
abbrev pub head : Node → Node
head node = record node { text = []; entries = []; required = false }

-- the headers of all nodes
abbrev pub heads : NodeList → NodeList
heads nodes = map (λ pair. (pair.0, head pair.1)) nodes
