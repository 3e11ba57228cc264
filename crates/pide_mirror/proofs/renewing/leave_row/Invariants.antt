use Rattle.std.proofs.Common.{◌≡◌, ◌&&◌, ℕ, not, None, length}
use Rattle.std.specs.Prelude.{if◌then◌else◌}
use Rattle.text_words.specs.Members.{has}
use Rattle.pide_mirror.specs.Renewed.{gives}
use Rattle.pide_mirror.specs.Tables.{table_of}
use Rattle.pide_mirror.proofs.renewing.leave_row.Given as goal

abbrev pub invariant-executions : goal.invariant-executions
invariant-executions l = (e c : ℕ)
    → (if gives (record { command = l.row.command; executions = l.rest }) e c && not (has l.kept e) then None else table_of l.places e c)
    ≡ (if gives l.row e c && not (has l.kept e) then None else table_of l.fn.places e c)

abbrev pub decreases-executions : goal.decreases-executions
decreases-executions l = length l.rest
