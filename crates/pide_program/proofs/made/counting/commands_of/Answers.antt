-- One node more.
use Rattle.std.proofs.Common.{◌≡◌, ◌+◌, ℕ, List, ap, ◌∙◌, arith, rules}
use Rattle.doc_nodes.specs.declared.node.Node.{Node}
use Rattle.pide_program.proofs.Loops.{commands_next}
use Rattle.pide_program.proofs.made.counting.commands_of.Goals as goal

pub nodes-preserved : goal.nodes-preserved
nodes-preserved c =
    let sum : c.in-Some.more ≡ c.nodes.count + c.commands_at.result = search rules in
    commands_next c.args.nodes.now c.nodes.place c.nodes.count c.in-Some.more _ (omega (arith, c.nodes-test.true, c.len-place-end.ensures))
    (λ (pair : List ℕ × Node) at. sum ∙ ap (λ n. c.nodes.count + n) (c.commands_at.ensures pair at)) c.nodes.invariant
