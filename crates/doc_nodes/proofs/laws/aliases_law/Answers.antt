use Rattle.doc_nodes.proofs.AliasLaws.{aliases_are}
use Rattle.doc_nodes.proofs.TidyAliases.{aliases_tidy}
use Rattle.doc_nodes.proofs.laws.aliases_law.Goals as goal

pub returns-clause-fold : goal.returns-clause-fold
returns-clause-fold c = aliases_are

pub returns-clause-each : goal.returns-clause-each
returns-clause-each c = aliases_tidy
