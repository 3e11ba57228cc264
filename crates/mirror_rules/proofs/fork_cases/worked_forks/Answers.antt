use Rattle.std.proofs.Common.{refl}
use Rattle.mirror_rules.proofs.fork_cases.worked_forks.Goals as goal

pub returns-clause-may_fork : goal.returns-clause-may_fork
returns-clause-may_fork c = record {
  proof = refl;
  misshapen = refl;
  comment = refl;
  alias = refl;
  itself = refl;
  not_in_force = refl;
  other_alias = refl;
  other = refl;
  quoted = refl;
  behind = refl;
  empty = refl;
}

pub returns-clause-forks_by : goal.returns-clause-forks_by
returns-clause-forks_by c = record { accepted = refl; refused = refl; not_yet = refl; other = refl }
