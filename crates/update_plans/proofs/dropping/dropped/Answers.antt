use Rattle.std.proofs.Common.{List, ℕ, arith}
use Rattle.doc_nodes.specs.declared.node.Node.{Node}
use Rattle.exec_rules.specs.Assigning.{rows_in}
use Rattle.update_plans.specs.Rows.{lost}
use Rattle.update_plans.proofs.Loops.{flat_more, flat_over}
use Rattle.update_plans.proofs.DroppedAre.{dropped_are}
use Rattle.update_plans.proofs.dropping.dropped.Goals as goal

pub nodes-preserved : goal.nodes-preserved
nodes-preserved c =
    flat_more (λ (pair : List ℕ × Node). lost (rows_in c.args.before.now pair.0) (rows_in c.args.now.now pair.0))
    c.args.before.now.nodes c.nodes.place _ _ _ (omega (arith, c.nodes-test.true, c.len-place-end.ensures)) c.in_ok-add_lost_at.ensures c.nodes.invariant

pub returns : goal.returns
returns c =
    dropped_are c.args.before.now c.args.now.now c.args.standing.now c.requires c.nodes.all.items
    (flat_over (λ (pair : List ℕ × Node). lost (rows_in c.args.before.now pair.0) (rows_in c.args.now.now pair.0))
    c.args.before.now.nodes c.nodes.place _ _ (omega (arith, c.nodes-test.false, c.len-place-end.ensures)) c.nodes.invariant)
