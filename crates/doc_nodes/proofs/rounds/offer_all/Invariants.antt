use Rattle.std.proofs.Common.{◌≡◌, ℕ, ◌<◌, true, false, slice_index_or}
use Rattle.text_words.specs.Members.{has}
use Rattle.doc_nodes.specs.Looks.{Scanned, IsDue}
use Rattle.doc_nodes.proofs.rounds.offer_all.Given as goal

abbrev pub invariant-nodes : goal.invariant-nodes
invariant-nodes l = record {
  scanned : Scanned l.rows l.marks l.looked;
  kept : (p : ℕ) → has l.fn.next.items p ≡ true → has l.next.items p ≡ true;
  added : (k d : ℕ) → k < l.node-index → IsDue l.rows l.marks (slice_index_or l.nodes k d) → has l.next.items (slice_index_or l.nodes k d) ≡ true;
  sound : (p : ℕ) → has l.next.items p ≡ true → has l.fn.next.items p ≡ false → IsDue l.rows l.marks p;
}
