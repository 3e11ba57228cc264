use Rattle.std.proofs.Common.{◌≡◌, ℕ, length}
use Rattle.std.specs.Option.{option_or}
use Rattle.pide_mirror.specs.Renewed.{fresh_row}
use Rattle.pide_mirror.specs.Tables.{table_of}
use Rattle.pide_mirror.proofs.renewing.add_row.Given as goal

abbrev pub invariant-executions : goal.invariant-executions
invariant-executions l = (e c : ℕ)
    → option_or (table_of l.places e c) (fresh_row l.source (record { command = l.row.command; executions = l.rest }) e c)
    ≡ option_or (table_of l.fn.places e c) (fresh_row l.source l.row e c)

abbrev pub decreases-executions : goal.decreases-executions
decreases-executions l = length l.rest
