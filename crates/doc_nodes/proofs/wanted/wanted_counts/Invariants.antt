use Rattle.std.proofs.Common.{◌≡◌}
use Rattle.std.specs.Prelude.{map}
use Rattle.std.specs.List.{range_with_len}
use Rattle.doc_nodes.specs.Wanted.{wanted_at}
use Rattle.doc_nodes.proofs.wanted.wanted_counts.Given as goal

abbrev pub invariant-places : goal.invariant-places
invariant-places l = l.counts.items ≡ map (wanted_at l.nodes) (range_with_len 0 l.place)
