use Rattle.std.proofs.Common.{◌≡◌, drop}
use Rattle.doc_nodes.specs.Aliases.{folded}
use Rattle.doc_nodes.proofs.folding.Folding.with_all.Given as goal

abbrev pub invariant-pairs : goal.invariant-pairs
invariant-pairs l = folded l.folding (drop l.place l.aliases) ≡ folded l.fn.self l.aliases
