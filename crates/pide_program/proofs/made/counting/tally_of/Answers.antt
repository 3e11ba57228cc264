-- One node more.
use Rattle.std.proofs.Common.{ℕ, List, arith}
use Rattle.doc_nodes.specs.declared.node.Node.{Node}
use Rattle.pide_program.specs.Told.{shown_reports}
use Rattle.pide_program.proofs.Loops.{tally_next}
use Rattle.pide_program.proofs.made.counting.tally_of.Goals as goal

pub nodes-preserved : goal.nodes-preserved
nodes-preserved g c = λ version live.
    tally_next (λ (pair : List ℕ × Node). shown_reports g.L.Language.lang c.args.session.now version pair.0) c.args.nodes.now
    c.nodes.place c.nodes.tally c.add_node_at.new.tally (omega (arith, c.nodes-test.true, c.len-place-end.ensures))
    (λ all pair at is. c.in_ok-add_node_at.ensures all version pair at live is) (c.nodes.invariant version live)
