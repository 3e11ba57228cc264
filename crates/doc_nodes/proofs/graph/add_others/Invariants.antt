use Rattle.std.proofs.Common.{◌≡◌, ◌++◌, filter, not}
use Rattle.std.specs.List.{range_with_len}
use Rattle.doc_nodes.specs.Looks.{marked}
use Rattle.doc_nodes.proofs.graph.add_others.Given as goal

abbrev pub invariant-places : goal.invariant-places
invariant-places l = l.order.items ≡ l.fn.order.items ++ filter (λ p. not (marked l.marks p)) (range_with_len 0 l.place)
