use Rattle.std.proofs.Common.{◌++◌, sym, ap, ◌∙◌, append-nil}
use Rattle.exec_rules.specs.Assigning.{rows_in}
use Rattle.update_plans.specs.Rows.{lost}
use Rattle.update_plans.proofs.BesideRows.{lost_same}
use Rattle.update_plans.proofs.dropping.add_lost_in.Goals as goal

pub returns-then-is_marked : goal.returns-then-is_marked
returns-then-is_marked c =
    let stayed = c.requires c.args.name.now (sym c.is_marked.ensures ∙ c.if-is_marked.true) in
    let all = c.args.all.now.items in
    let rows = rows_in c.args.before.now c.args.name.now in
    sym (append-nil all) ∙ ap (λ rest. all ++ rest) (sym (ap (lost rows) stayed.rows ∙ lost_same rows))
