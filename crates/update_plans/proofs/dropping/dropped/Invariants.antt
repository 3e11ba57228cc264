use Rattle.std.proofs.Common.{◌≡◌, ℕ, List, ◌++◌, drop}
use Rattle.std.specs.Prelude.{flat_map}
use Rattle.doc_nodes.specs.declared.node.Node.{Node}
use Rattle.exec_rules.specs.Assigning.{rows_in}
use Rattle.update_plans.specs.Rows.{lost}
use Rattle.update_plans.proofs.dropping.dropped.Given as goal

abbrev pub invariant-nodes : goal.invariant-nodes
invariant-nodes l =
    let gone = λ (pair : List ℕ × Node). lost (rows_in l.before pair.0) (rows_in l.now pair.0) in
    l.all.items ++ flat_map gone (drop l.place l.before.nodes) ≡ flat_map gone l.before.nodes
