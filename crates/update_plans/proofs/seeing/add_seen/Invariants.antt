use Rattle.std.proofs.Common.{◌≡◌, ℕ, List, ◌++◌, drop}
use Rattle.std.specs.Prelude.{flat_map}
use Rattle.doc_nodes.specs.declared.node.Node.{Node}
use Rattle.update_plans.specs.Sights.{seen_in}
use Rattle.update_plans.proofs.seeing.add_seen.Given as goal

abbrev pub invariant-nodes : goal.invariant-nodes
invariant-nodes l =
    let seen = λ (pair : List ℕ × Node). seen_in l.standing l.now pair.0 in
    l.all.items ++ flat_map seen (drop l.place l.now.nodes) ≡ l.fn.all.items ++ flat_map seen l.now.nodes
