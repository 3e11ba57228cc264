use Rattle.std.proofs.Common.{◌≡◌, ℕ, ◌<◌, true}
use Rattle.text_words.specs.Members.{has}
use Rattle.doc_nodes.specs.Looks.{Scanned, IsDue}
use Rattle.doc_nodes.proofs.rounds.first_round.Given as goal

abbrev pub invariant-nodes : goal.invariant-nodes
invariant-nodes l = record {
  scanned : Scanned l.rows l.marks l.looked;
  added : (p : ℕ) → p < l.node → IsDue l.rows l.marks p → has l.next.items p ≡ true;
  sound : (p : ℕ) → has l.next.items p ≡ true → IsDue l.rows l.marks p;
}
