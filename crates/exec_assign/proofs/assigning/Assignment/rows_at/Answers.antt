use Rattle.std.proofs.Common.{[], Option, ap, ◌∙◌}
use Rattle.std.specs.Option.{option_map_or}
use Rattle.exec_rules.specs.declared.row.Assigned.{Assigned}
use Rattle.exec_assign.proofs.ListLemmas.{rows_or}
use Rattle.exec_assign.proofs.assigning.Assignment.rows_at.Goals as goal

pub returns-in-None : goal.returns-in-None
returns-in-None c =
    ap (λ (o : Option Assigned). option_map_or (λ a. a.rows) o []) c.in-None.ensures.value
    ∙ rows_or c.args.self.now.assigned c.args.place
