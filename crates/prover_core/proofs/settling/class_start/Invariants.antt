use Rattle.std.proofs.Common.{◌-◌, ◌≡◌, ◌≤◌, get_or}
use Rattle.pide_base.specs.declared.part.Part.{Part}
use Rattle.core_tables.specs.Tasks.{standing}
use Rattle.core_tables.specs.Ready.{priority_of}
use Rattle.prover_core.proofs.settling.class_start.Given as goal

abbrev pub invariant-halves : goal.invariant-halves
invariant-halves l = record {
  rising : l.low ≤ l.high;
  within : l.high ≤ l.place;
  alike : (d : Part) → priority_of (standing l.queue) (get_or l.parts l.high d).exec
      ≡ priority_of (standing l.queue) (get_or l.parts l.place d).exec;
}

abbrev pub decreases-halves : goal.decreases-halves
decreases-halves l = l.high - l.low
