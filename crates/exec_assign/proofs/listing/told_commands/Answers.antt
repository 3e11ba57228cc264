use Rattle.std.proofs.Common.{◌++◌, List, map, drop, sym, ap, ◌∙◌, append-nil}
use Rattle.exec_rules.specs.Listed.{Told}
use Rattle.exec_assign.specs.Told.{told_command}
use Rattle.exec_assign.proofs.TellLemmas.{told_next, told_over}
use Rattle.exec_assign.proofs.listing.told_commands.Goals as goal

pub commands-preserved : goal.commands-preserved
commands-preserved c =
    told_next c.args.entries.now c.args.rows.now c.commands.place c.index-entries-place.result c.row_at.result
    (map told_command c.commands.all) _ _ c.commands-test.true c.index-entries-place.is c.row_at.ensures c.in_ok-add_command.ensures c.commands.invariant

pub returns : goal.returns
returns c =
    sym (append-nil (map told_command c.commands.all))
    ∙ ap (λ (rest : List Told). map told_command c.commands.all ++ rest)
    (sym (told_over c.args.entries.now (drop c.commands.place c.args.rows.now) c.commands.place c.commands-test.false))
    ∙ c.commands.invariant
