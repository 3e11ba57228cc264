-- One node more.
use Rattle.std.proofs.Common.{arith, rules, ◌≡◌}
use Rattle.std.specs.Prelude.{flat_map}
use Rattle.exec_rules.specs.Listed.{executions}
use Rattle.core_rules.specs.Doc.{greatest}
use Rattle.text_words.proofs.KnownLists.{rest_at}
use Rattle.made_document.proofs.Greatest.{rows_next}
use Rattle.made_document.proofs.executions.greatest_assigned.Goals as goal

pub nodes-preserved : goal.nodes-preserved
nodes-preserved c =
    let next_is : c.greatest_in-found.result ≡ greatest c.nodes.found (flat_map executions c.assigned-item.result.rows) = search rules in
    rows_next c.as_slice-assigned-items.result.now c.nodes.assigned-index c.assigned-item.result c.nodes.found _ _
    (rest_at c.as_slice-assigned-items.result.now c.nodes.assigned-index c.assigned-item.result (omega (arith, c.nodes-test.true)) c.assigned-item.is) c.nodes.invariant next_is
