use Rattle.std.proofs.Common.{sym, ◌∙◌}
use Rattle.update_plans.proofs.KnownCancelled.{has_cancelled}
use Rattle.update_plans.proofs.cancelled.CancelledOfCancelled.is_cancelled.Goals as goal

pub returns : goal.returns
returns g c = c.is_cancelled.ensures ∙ sym (has_cancelled c.args.self.now.execs.now.rows c.args.execution)
