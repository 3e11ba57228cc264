use Rattle.std.proofs.Common.{length, ◌-◌, ◌≡◌, ℕ, ◌<◌, ◌≤◌, true, None, slice_index_or}
use Rattle.doc_nodes.specs.Looks.{met_by}
use Rattle.doc_nodes.proofs.offer.first_unmet.Given as goal

abbrev pub invariant-looking : goal.invariant-looking
invariant-looking l = record {
  past : l.from ≤ l.at;
  met : (q : ℕ) → l.from ≤ q → q < l.at → met_by l.marks (slice_index_or l.aims q None) ≡ true;
}

abbrev pub decreases-looking : goal.decreases-looking
decreases-looking l = length l.aims - l.at
