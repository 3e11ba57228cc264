use Rattle.std.proofs.Common.{◌≡◌, ℕ, ◌<◌, ◌≤◌, ◌-◌, true, length}
use Rattle.exec_assign.specs.Keeping.{keeps_at}
use Rattle.exec_rules.specs.Assigning.{times}
use Rattle.exec_assign.proofs.update.Update.kept.Given as goal

abbrev pub invariant-front : goal.invariant-front
invariant-front g l = record {
  within : l.count ≤ length l.now;
  all : (j : ℕ) → j < l.count → keeps_at (times l.self) l.now l.before l.rows j ≡ true;
}

abbrev pub decreases-front : goal.decreases-front
decreases-front g l = length l.now - l.count
