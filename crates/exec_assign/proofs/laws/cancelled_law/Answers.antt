use Rattle.exec_assign.proofs.AgreeLemmas.{assignment_same, untouched_same}
use Rattle.exec_assign.proofs.laws.cancelled_law.Goals as goal

pub returns-clause-assignment : goal.returns-clause-assignment
returns-clause-assignment c = λ tip nodes blobs one other next agree. assignment_same tip nodes blobs one other agree next

pub returns-clause-untouched : goal.returns-clause-untouched
returns-clause-untouched c = λ tip nodes blobs one other marks agree. untouched_same tip nodes blobs one other agree marks
