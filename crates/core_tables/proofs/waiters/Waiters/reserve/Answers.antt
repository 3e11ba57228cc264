use Rattle.std.proofs.Common.{◌∙◌}
use Rattle.core_tables.proofs.waiters.Waiters.reserve.Goals as goal

pub returns-clause-same : goal.returns-clause-same
returns-clause-same c e w waits =
    let count = c.in_ok-reserve.ensures.entries.2 e in
    let link = c.reserve-2.ensures.entries.2 (record { input = e; number = waits.0 }) in
    (waits.0, rw count waits.1, link ∙ waits.2)

pub returns-clause-all : goal.returns-clause-all
returns-clause-all c all e n low =
    let count = c.in_ok-reserve.ensures.entries.2 e in
    let link = c.reserve-2.ensures.entries.2 (record { input = e; number = n }) in
    rw link (all e n (rw count at low))
