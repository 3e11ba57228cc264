use Rattle.std.proofs.Common.{◌≡◌, drop}
use Rattle.shared_map.specs.Pairs.{found}
use Rattle.doc_nodes.specs.Names.{in_order}
use Rattle.doc_nodes.proofs.alias.Aliases.target_of.Given as goal

abbrev pub invariant-pairs : goal.invariant-pairs
invariant-pairs l = found in_order l.name (drop l.place l.self) ≡ found in_order l.name l.self
