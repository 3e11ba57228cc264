use Rattle.std.proofs.Common.{◌≡◌, ℕ, ◌+◌, ◌++◌, ◌≤◌, List, None, drop, option_map}
use Rattle.std.specs.Option.{unwrap_or}
use Rattle.byte_message.specs.Counted.{AreCounted}
use Rattle.byte_message.specs.Limits.{longest_chunk}
use Rattle.byte_message.specs.Scan.{scan}
use Rattle.byte_message.proofs.line.numbers.Given as goal

abbrev pub invariant-loop-b : goal.invariant-loop-b
invariant-loop-b l = record {
  small : unwrap_or l.before 0 ≤ longest_chunk + 1;
  few : l.done.count ≤ l.b-index;
  read : (all : List ℕ) × AreCounted l.done all
      × (option_map (λ ns. all ++ ns) (scan l.before (drop l.b-index l.text)) ≡ scan None l.text);
}
