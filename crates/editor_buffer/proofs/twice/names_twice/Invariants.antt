use Rattle.std.proofs.Common.{◌≡◌, ◌≤◌, false, length, drop}
use Rattle.std.specs.Prelude.{map}
use Rattle.buffer_rules.specs.Updates.{names_twice}
use Rattle.editor_buffer.specs.NameSets.{AreNames}
use Rattle.editor_buffer.proofs.twice.names_twice.Given as goal

abbrev pub invariant-back : goal.invariant-back
invariant-back l = record {
  within : l.at ≤ length l.items;
  none : names_twice (drop l.at l.items) ≡ false;
  names : AreNames l.later (map (λ item. item.node) (drop l.at l.items));
}

abbrev pub decreases-back : goal.decreases-back
decreases-back l = l.at
