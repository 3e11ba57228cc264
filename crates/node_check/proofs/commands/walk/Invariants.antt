-- What was reported so far and what the commands that are left report come to all.
use Rattle.std.proofs.Common.{◌≡◌, ◌+◌, ℕ, length}
use Rattle.std.specs.List.{sum_by, AllByRecursion}
use Rattle.report_markup.specs.declared.report.Report.{Report}
use Rattle.node_check.specs.Walking.{LiesIn, reports_from, state_from}
use Rattle.node_check.proofs.commands.walk.Given as goal

abbrev pub invariant-commands : goal.invariant-commands
invariant-commands g l = ((measure : Report → ℕ)
    → sum_by measure l.all.items + sum_by measure (reports_from g.L.Language.lang l.text l.rest l.state)
    ≡ sum_by measure l.initial.all.items + sum_by measure (reports_from g.L.Language.lang l.text l.ranges l.fn.begins))
    × AllByRecursion (LiesIn (length l.text)) l.rest
    × (state_from g.L.Language.lang l.text l.rest l.state ≡ state_from g.L.Language.lang l.text l.ranges l.fn.begins)

abbrev pub decreases-commands : goal.decreases-commands
decreases-commands g l = length l.rest
