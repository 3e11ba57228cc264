-- One version more.
use Rattle.std.proofs.Common.{arith, ◌≡◌, rules}
use Rattle.core_rules.specs.Assigned.{executions_of}
use Rattle.core_rules.specs.Doc.{greatest}
use Rattle.text_words.proofs.KnownLists.{rest_at}
use Rattle.made_document.proofs.Greatest.{versions_next}
use Rattle.made_document.proofs.executions.greatest_execution.Goals as goal

pub versions-preserved : goal.versions-preserved
versions-preserved c =
    let next_is : c.greatest_assigned-found.result ≡ greatest c.versions.found (executions_of c.one-item.result.version) = search rules in
    versions_next c.args.live.now c.versions.one-index c.one-item.result c.versions.found _ _ (rest_at c.args.live.now c.versions.one-index c.one-item.result (omega (arith, c.versions-test.true)) c.one-item.is) c.versions.invariant next_is
