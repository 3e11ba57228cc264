use Rattle.std.proofs.Common.{◌≡◌, drop}
use Rattle.std.specs.Prelude.{map}
use Rattle.doc_nodes.specs.Aliases.{folded}
use Rattle.doc_nodes.proofs.folding.Folding.with_own.Given as goal

abbrev pub invariant-pairs : goal.invariant-pairs
invariant-pairs l = folded l.folding (map (λ pair. (pair.name, pair.target)) (drop l.pair-index l.keywords)) ≡ folded l.fn.self (map (λ pair. (pair.name, pair.target)) l.keywords)
