use Rattle.view_laws.proofs.Ends.{ended_log}
use Rattle.view_laws.proofs.Own.{own_calls}
use Rattle.view_laws.proofs.laws.reader_law.Goals as goal

pub returns-clause-calls : goal.returns-clause-calls
returns-clause-calls g c = λ log. own_calls log

pub returns-clause-ended : goal.returns-clause-ended
returns-clause-ended g c = λ log. ended_log g.L.Language.lang log
