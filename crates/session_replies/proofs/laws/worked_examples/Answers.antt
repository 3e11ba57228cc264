use Rattle.std.proofs.Common.{refl}
use Rattle.session_replies.proofs.laws.worked_examples.Goals as goal

pub returns-clause-assignments : goal.returns-clause-assignments
returns-clause-assignments c = record { told = refl }

pub returns-clause-snapshots : goal.returns-clause-snapshots
returns-clause-snapshots c = record { scalars = refl; symbols = refl; edited = refl }
