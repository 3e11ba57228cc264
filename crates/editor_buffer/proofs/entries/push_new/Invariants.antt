use Rattle.std.proofs.Common.{◌≡◌, ◌+◌, ◌≤◌, ◌++◌, length, map}
use Rattle.std.specs.List.{range_with_len, zip}
use Rattle.buffer_rules.specs.Nodes.{entry}
use Rattle.editor_buffer.proofs.entries.push_new.Given as goal

abbrev pub invariant-new : goal.invariant-new
invariant-new l = record {
  first : l.fn.next ≤ l.id;
  last : l.id + length l.rest ≡ l.fn.next + length l.fn.ranges;
  made : l.entries ++ map (entry l.sheet l.aliases) (zip (range_with_len l.id (length l.rest)) l.rest)
      ≡ l.initial.entries ++ map (entry l.sheet l.aliases) (zip (range_with_len l.fn.next (length l.fn.ranges)) l.fn.ranges);
}

abbrev pub decreases-new : goal.decreases-new
decreases-new l = length l.rest
