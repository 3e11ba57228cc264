use Rattle.std.proofs.Common.{◌≡◌, ℕ, None, length}
use Rattle.std.specs.Prelude.{if◌then◌else◌}
use Rattle.pide_mirror.specs.Renewed.{stale_in, made_for}
use Rattle.pide_mirror.specs.Tables.{table_of}
use Rattle.pide_mirror.proofs.renewing.leave_stale.Given as goal

abbrev pub invariant-nodes : goal.invariant-nodes
invariant-nodes l = (e c : ℕ)
    → (if stale_in (made_for l.nodes l.made) l.rest l.old e c then None else table_of l.places e c)
    ≡ (if stale_in (made_for l.nodes l.made) l.tip.nodes l.tip.rows e c then None else table_of l.fn.places e c)

abbrev pub decreases-nodes : goal.decreases-nodes
decreases-nodes l = length l.rest
