use Rattle.std.proofs.Common.{subst}
use Rattle.std.specs.Prelude.{IfOk}
use Rattle.exec_rules.specs.Assigning.{Update}
use Rattle.exec_assign.specs.Fitting.{RowsFit}
use Rattle.exec_assign.specs.Telling.{update_version}
use Rattle.test_documents.proofs.assigned.assigned_to.Goals as goal

pub returns-clause-rows : goal.returns-clause-rows
returns-clause-rows c =
    subst (λ (u : Update). IfOk c.listed_by.result
    (λ pair. RowsFit (update_version u pair.0.assigned)))
    c.in_ok-update.ensures c.listed_by.ensures.rows
