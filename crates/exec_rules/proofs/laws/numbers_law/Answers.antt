use Rattle.std.proofs.Common.{[], refl, arith}
use Rattle.doc_nodes.specs.Imports.{order}
use Rattle.doc_nodes.specs.Prefix.{wanted_prefix}
use Rattle.exec_rules.proofs.NumberLaws.{all_numbers}
use Rattle.exec_rules.proofs.laws.numbers_law.Goals as goal

pub returns : goal.returns
returns c = λ u next.
    all_numbers (λ es. ((c.prefix_law.ensures es (wanted_prefix es)).1 refl).within) u (order u.nodes)
    (record { done = []; homes = []; next = next }) next (omega arith)
