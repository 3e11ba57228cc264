use Rattle.std.proofs.Common.{◌≡◌, take}
use Rattle.std.specs.Prelude.{slice_get}
use Rattle.std.specs.Option.{option_map}
use Rattle.std.specs.List.{filter_map}
use Rattle.doc_nodes.specs.Imports.{placed_node, order}
use Rattle.doc_nodes.proofs.placed.import_order.Given as goal

abbrev pub invariant-places : goal.invariant-places
invariant-places l = l.all.items ≡ filter_map (λ p. option_map (placed_node l.nodes) (slice_get l.nodes p)) (take l.place-index (order l.nodes))
