use Rattle.std.proofs.Common.{◌≡◌, ◌-◌, ◌<◌, ◌≤◌, ℕ, true, length, slice_index_or}
use Rattle.std.specs.List.{list_all}
use Rattle.doc_nodes.specs.Looks.{aims_at, met_by}
use Rattle.pide_build.proofs.fitting.fitting.Given as goal

-- those so far fit
abbrev pub invariant-fitting : goal.invariant-fitting
invariant-fitting l = record {
  some : 0 < l.count;
  within : l.count ≤ length l.places;
  fit : (q : ℕ) → 0 < q → q < l.count → list_all (met_by l.marks) (aims_at l.graph.aims (slice_index_or l.places q 0)) ≡ true;
}

abbrev pub decreases-fitting : goal.decreases-fitting
decreases-fitting l = length l.places - l.count
