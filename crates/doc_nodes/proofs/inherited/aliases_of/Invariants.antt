use Rattle.std.proofs.Common.{◌≡◌, ℕ, List, [], length, drop, vec_len}
use Rattle.doc_nodes.specs.Imports.{order}
use Rattle.doc_nodes.specs.declared.inherited.NodeAliases.{NodeAliases}
use Rattle.doc_nodes.specs.Aliases.{in_turn}
use Rattle.doc_nodes.specs.Known.{AreKnown}
use Rattle.doc_nodes.proofs.inherited.aliases_of.Given as goal

abbrev pub invariant-places : goal.invariant-places
invariant-places l = record {
  len : vec_len l.all ≡ length l.nodes;
  found : (done : List (ℕ × NodeAliases)) × AreKnown l.all.items done
      × (in_turn l.nodes (drop l.place-index (order l.nodes)) done ≡ in_turn l.nodes (order l.nodes) []);
}
