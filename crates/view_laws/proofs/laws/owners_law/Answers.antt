use Rattle.hist_lock.proofs.KnownOwn.{own_within}
use Rattle.view_laws.specs.Callers.{whose}
use Rattle.view_laws.proofs.Own.{own_has, own_history}
use Rattle.view_laws.proofs.laws.owners_law.Goals as goal

pub returns-clause-own : goal.returns-clause-own
returns-clause-own c = λ log one. (own_has log one, own_within whose (whose one) log one)

pub returns-clause-entries : goal.returns-clause-entries
returns-clause-entries c = λ log who. own_history log who
