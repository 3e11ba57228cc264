use Rattle.view_laws.proofs.Right.{done_right, work_stays}
use Rattle.view_laws.proofs.working.works_law.Goals as goal

pub returns-clause-stays : goal.returns-clause-stays
returns-clause-stays g c = λ seen log work p are right.
    work_stays g.L.Language.lang c.core_law.ensures.stays c.unheard_law.ensures seen log work p are right

pub returns-clause-done : goal.returns-clause-done
returns-clause-done g c = λ log work right. done_right g.L.Language.lang log work right
