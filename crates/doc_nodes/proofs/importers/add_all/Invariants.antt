use Rattle.std.proofs.Common.{◌≡◌, ℕ, ◌<◌, true, false, length, Some, None, slice_index_or}
use Rattle.text_words.specs.Members.{has}
use Rattle.doc_nodes.specs.Importers.{list_at}
use Rattle.doc_nodes.proofs.importers.add_all.Given as goal

abbrev pub invariant-aims : goal.invariant-aims
invariant-aims l = record {
  kept : (p i : ℕ) → has (list_at l.fn.lists p) i ≡ true → has (list_at l.lists p) i ≡ true;
  added : (q p : ℕ) → q < l.aim-index → slice_index_or l.aims q None ≡ Some p → p < length l.lists → has (list_at l.lists p) l.node ≡ true;
  sound : (p i : ℕ) → has (list_at l.lists p) i ≡ true → has (list_at l.fn.lists p) i ≡ false → i ≡ l.node;
}
