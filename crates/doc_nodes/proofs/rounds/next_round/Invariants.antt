use Rattle.std.proofs.Common.{◌≡◌, ℕ, ◌<◌, true, slice_index_or}
use Rattle.text_words.specs.Members.{has}
use Rattle.doc_nodes.specs.Looks.{Scanned, IsDue}
use Rattle.doc_nodes.specs.Importers.{list_at}
use Rattle.doc_nodes.proofs.rounds.next_round.Given as goal

abbrev pub invariant-last : goal.invariant-last
invariant-last l = record {
  scanned : Scanned l.rows l.marks l.looked;
  added : (k i : ℕ) → k < l.place-index → has (list_at l.importers (slice_index_or l.last k 0)) i ≡ true → IsDue l.rows l.marks i → has l.next.items i ≡ true;
  sound : (p : ℕ) → has l.next.items p ≡ true → IsDue l.rows l.marks p;
}
