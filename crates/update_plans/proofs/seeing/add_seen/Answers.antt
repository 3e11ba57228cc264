use Rattle.std.proofs.Common.{List, ℕ, arith}
use Rattle.doc_nodes.specs.declared.node.Node.{Node}
use Rattle.update_plans.specs.Sights.{seen_in}
use Rattle.update_plans.proofs.Loops.{flat_more, flat_over}
use Rattle.update_plans.proofs.seeing.add_seen.Goals as goal

pub nodes-preserved : goal.nodes-preserved
nodes-preserved c =
    flat_more (λ (pair : List ℕ × Node). seen_in c.args.standing.now c.args.now.now pair.0)
    c.args.now.now.nodes c.nodes.place _ _ _ (omega (arith, c.nodes-test.true, c.len-place-end.ensures)) c.in_ok-add_seen_at.ensures c.nodes.invariant

pub returns : goal.returns
returns c =
    flat_over (λ (pair : List ℕ × Node). seen_in c.args.standing.now c.args.now.now pair.0)
    c.args.now.now.nodes c.nodes.place _ _ (omega (arith, c.nodes-test.false, c.len-place-end.ensures)) c.nodes.invariant
