use Rattle.std.proofs.Common.{◌≡◌, ◌≤◌, length, take}
use Rattle.doc_nodes.specs.Prefix.{wanted_prefix}
use Rattle.doc_nodes.proofs.prefix.wanted_prefix.Given as goal

abbrev pub invariant-hidden : goal.invariant-hidden
invariant-hidden l = record {
  within : l.count ≤ length l.entries;
  same : wanted_prefix (take l.count l.entries) ≡ wanted_prefix l.entries;
}

abbrev pub decreases-hidden : goal.decreases-hidden
decreases-hidden l = l.count
