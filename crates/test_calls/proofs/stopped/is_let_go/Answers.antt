-- The job that came back is the one that was taken, and the message took no part from the worker.
use Rattle.std.proofs.Common.{Some, sym, ap, ◌∙◌}
use Rattle.test_calls.proofs.stopped.is_let_go.Goals as goal

pub let_go-requires-clause-holds : goal.let_go-requires-clause-holds
let_go-requires-clause-holds g c =
    c.told.ensures.holds ∙ c.in_ok-taken.ensures.job.holds ∙ ap (λ w. Some w.job.part) (sym c.in_ok-job.ensures)
