use Rattle.std.proofs.Common.{◌<◌, ◌≤◌, ℕ, length, get_or}
use Rattle.pide_base.specs.declared.part.Part.{Part}
use Rattle.prover_core.proofs.settling.ready_below.Given as goal

abbrev pub invariant-classes : goal.invariant-classes
invariant-classes l = record {
  within : l.end ≤ length l.parts;
  newer : (j : ℕ) (d : Part) → l.end ≤ j → j < length l.parts → l.behind ≤ (get_or l.parts j d).exec;
}

abbrev pub decreases-classes : goal.decreases-classes
decreases-classes l = l.end
