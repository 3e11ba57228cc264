use Rattle.std.proofs.Common.{◌≤◌, length, drop}
use Rattle.doc_nodes.specs.Imports.{order}
use Rattle.doc_nodes.specs.Wanted.{reached}
use Rattle.doc_nodes.specs.Reach.{AreReached}
use Rattle.doc_nodes.proofs.wanted.mark_reached.Given as goal

abbrev pub invariant-back : goal.invariant-back
invariant-back l = record {
  within : l.at ≤ length (order l.nodes);
  marks : AreReached l.nodes l.marks (reached l.nodes (drop l.at (order l.nodes)));
}

abbrev pub decreases-back : goal.decreases-back
decreases-back l = l.at
