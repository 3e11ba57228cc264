use Rattle.std.proofs.Common.{[], refl}
use Rattle.language.specs.declared.made.Imports.TheVariants.{Ordered}
use Rattle.isar_rules.specs.Starts.{start_state}
use Rattle.soundness_laws.proofs.DocumentFacts.{document_just}
use Rattle.soundness_laws.proofs.Stating.{alone_just}
use Rattle.soundness_laws.proofs.theories.facts_law.Goals as goal

pub returns-clause-node : goal.returns-clause-node
returns-clause-node c name aliases node blobs clean some = alone_just name node blobs (start_state name (Ordered []) aliases) aliases.bad refl clean some

pub returns-clause-document : goal.returns-clause-document
returns-clause-document c nodes blobs = document_just nodes blobs (record {
  every = c.order_law.ensures.every nodes;
  once = c.order_law.ensures.once nodes;
  behind = c.order_law.ensures.behind nodes;
  ordered = c.order_law.ensures.ordered nodes;
})
