use Rattle.std.proofs.Common.{◌≡◌, ◌++◌, length, map}
use Rattle.shared_map.specs.Pairs.{Each}
use Rattle.editor_buffer.specs.Within.{IsSmall, moved}
use Rattle.editor_buffer.proofs.editing.moved_all.Given as goal

abbrev pub invariant-each : goal.invariant-each
invariant-each l = record {
  all : l.all.items ++ map (moved l.edit) l.rest ≡ map (moved l.edit) l.fn.ranges;
  small : Each (IsSmall l.edit) l.rest;
}

abbrev pub decreases-each : goal.decreases-each
decreases-each l = length l.rest
