use Rattle.std.proofs.Common.{◌≡◌, take}
use Rattle.std.specs.Prelude.{map}
use Rattle.doc_nodes.specs.Imports.{place_of}
use Rattle.doc_nodes.proofs.graph.aims_of.Given as goal

abbrev pub invariant-imports : goal.invariant-imports
invariant-imports l = l.aims.items ≡ map (place_of l.nodes) (take l.name-index l.node.imports)
