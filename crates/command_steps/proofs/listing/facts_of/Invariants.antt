use Rattle.std.proofs.Common.{◌≡◌, ◌≤◌, ◌+◌, length}
use Rattle.isar_rules.specs.BlobLines.{lines_of, facts_from, listed_facts}
use Rattle.command_steps.specs.Listing.{joined}
use Rattle.command_steps.proofs.listing.facts_of.Given as goal

abbrev pub invariant-lines : goal.invariant-lines
invariant-lines l = record {
  within : l.number + length l.rest ≤ length l.text + 1;
  told : joined l.facts (facts_from l.number (lines_of l.rest)) ≡ listed_facts l.text;
}

abbrev pub decreases-lines : goal.decreases-lines
decreases-lines l = length l.rest
