use Rattle.std.proofs.Common.{◌≡◌, arith, rules}
use Rattle.doc_nodes.specs.Wanted.{wanted_at}
use Rattle.exec_rules.specs.Assigning.{greater}
use Rattle.exec_assign.proofs.WantedLemmas.{count_within}
use Rattle.exec_assign.proofs.update.Update.given.Goals as goal

pub given_by-requires-clause-count : goal.given_by-requires-clause-count
given_by-requires-clause-count g c =
    let count : c.max-count.result ≡ greater c.kept_of-kept.result (wanted_at c.args.self.now.nodes c.args.place) = search rules in
    omega (arith, count, count_within c.args.self.now.nodes c.args.place (c.args.name.now, c.args.node.now) c.kept_of-kept.result c.requires.at c.kept_of-kept.ensures.commands)
