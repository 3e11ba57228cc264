use Rattle.std.proofs.Common.{◌≡◌, map, take}
use Rattle.exec_assign.proofs.evaluating.kept_evaluations.Given as goal

abbrev pub invariant-rows : goal.invariant-rows
invariant-rows l = l.all ≡ map (λ row. row.evaluation) (take l.row-index l.rows)
