use Rattle.std.proofs.Common.{◌≡◌, ℕ, length}
use Rattle.std.specs.Option.{option_or}
use Rattle.pide_mirror.specs.Renewed.{fresh_all}
use Rattle.pide_mirror.specs.Tables.{table_of}
use Rattle.pide_mirror.proofs.renewing.add_new.Given as goal

abbrev pub invariant-nodes : goal.invariant-nodes
invariant-nodes l = (e c : ℕ)
    → option_or (table_of l.places e c) (fresh_all l.rest l.rows e c)
    ≡ option_or (table_of l.fn.places e c) (fresh_all l.nodes l.made e c)

abbrev pub decreases-nodes : goal.decreases-nodes
decreases-nodes l = length l.rest
