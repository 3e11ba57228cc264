use Rattle.std.proofs.Common.{◌≡◌, length}
use Rattle.update_plans.proofs.AliveAre.{TellsTo}
use Rattle.update_plans.proofs.marking.untouched.Given as goal

abbrev pub invariant-nodes : goal.invariant-nodes
invariant-nodes g l = record {
  long : length l.all.items ≡ l.place;
  tells : TellsTo l.execs.rows l.before l.nodes l.marks l.place l.all.items;
}
