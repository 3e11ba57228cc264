-- The job that came back is the one that was taken.
use Rattle.std.proofs.Common.{sym, subst}
use Rattle.document_session.specs.keeping_rules_below.Items.{session_in}
use Rattle.document_session.specs.keeping_rules_below.Works.{IsWorkOf}
use Rattle.test_calls.proofs.stopped.goes_on.Goals as goal

pub still_wanted-requires-clause-job : goal.still_wanted-requires-clause-job
still_wanted-requires-clause-job g c =
    let l = g.L.Language.lang in
    let s = c.fork_of.new.session in
    subst (λ w. IsWorkOf l (session_in l s.service s.items) 1 w) (sym c.in_ok-back.ensures) c.in_ok-taken.ensures.job
