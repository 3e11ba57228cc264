use Rattle.std.proofs.Common.{◌≡◌, ℕ, vec_len, slice_index_or}
use Rattle.doc_nodes.specs.Aliases.{no_aliases}
use Rattle.doc_nodes.proofs.inherited.owners.Given as goal

abbrev pub invariant-nodes : goal.invariant-nodes
invariant-nodes l = record {
  len : vec_len l.all ≡ l.counter;
  none : (p : ℕ) → slice_index_or l.all.items p no_aliases ≡ no_aliases;
}
