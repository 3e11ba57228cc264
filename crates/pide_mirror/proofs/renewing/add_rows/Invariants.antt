use Rattle.std.proofs.Common.{◌≡◌, ℕ, length}
use Rattle.std.specs.Option.{option_or}
use Rattle.pide_mirror.specs.Renewed.{fresh_in}
use Rattle.pide_mirror.specs.Tables.{table_of}
use Rattle.pide_mirror.proofs.renewing.add_rows.Given as goal

abbrev pub invariant-commands : goal.invariant-commands
invariant-commands l = (e c : ℕ)
    → option_or (table_of l.places e c) (fresh_in l.node.text l.entries l.rest e c)
    ≡ option_or (table_of l.fn.places e c) (fresh_in l.node.text l.node.entries l.rows e c)

abbrev pub decreases-commands : goal.decreases-commands
decreases-commands l = length l.entries
