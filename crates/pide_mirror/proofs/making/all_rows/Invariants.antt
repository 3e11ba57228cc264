use Rattle.std.proofs.Common.{◌≡◌, ◌++◌, length}
use Rattle.doc_nodes.specs.Imports.{NodeList}
use Rattle.pide_mirror.specs.Making.{AreMadeBy}
use Rattle.pide_mirror.proofs.making.all_rows.Given as goal

abbrev pub invariant-nodes : goal.invariant-nodes
invariant-nodes l = (front : NodeList) × (l.nodes ≡ front ++ l.rest) × (l.place ≡ length front)
    × (length front ≡ length l.all.items)
    × AreMadeBy l.tip l.untouched l.listing.entries front l.all.items

abbrev pub decreases-nodes : goal.decreases-nodes
decreases-nodes l = length l.rest
