use Rattle.std.proofs.Common.{◌≡◌, ℕ, ◌<◌, true, length, Some, None, slice_index_or}
use Rattle.text_words.specs.Members.{has}
use Rattle.doc_nodes.specs.Looks.{aims_at}
use Rattle.doc_nodes.specs.Importers.{list_at}
use Rattle.doc_nodes.proofs.importers.importers_of.Given as goal

abbrev pub invariant-nodes : goal.invariant-nodes
invariant-nodes l = record {
  as_many : length l.lists.items ≡ length l.rows;
  complete : (i q p : ℕ) → i < l.node → q < length (aims_at l.rows i) → slice_index_or (aims_at l.rows i) q None ≡ Some p → p < length l.rows → has (list_at l.lists.items p) i ≡ true;
  within : (p i : ℕ) → has (list_at l.lists.items p) i ≡ true → i < l.node;
}
