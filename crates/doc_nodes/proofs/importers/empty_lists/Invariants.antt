use Rattle.std.proofs.Common.{◌≡◌, ℕ, vec_len, []}
use Rattle.doc_nodes.specs.Importers.{list_at}
use Rattle.doc_nodes.proofs.importers.empty_lists.Given as goal

abbrev pub invariant-lists : goal.invariant-lists
invariant-lists l = record {
  len : vec_len l.lists ≡ l.counter;
  empty : (p : ℕ) → list_at l.lists.items p ≡ [];
}
