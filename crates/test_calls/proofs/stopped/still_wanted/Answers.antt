-- The job goes on.
use Rattle.std.proofs.Common.{subst}
use Rattle.document_session.specs.Answers.{GivenUpSo}
use Rattle.test_calls.proofs.Wanted.{still_works}
use Rattle.test_calls.proofs.stopped.still_wanted.Goals as goal

pub returns-in-GoOn-clause-job : goal.returns-in-GoOn-clause-job
returns-in-GoOn-clause-job g c =
    let l = g.L.Language.lang in
    let s = c.args.session.now in
    let new = c.give_up.new.self in
    let so = subst (λ r. GivenUpSo l s.service 1 c.args.job s.items r new.items) c.in-GoOn.is c.give_up.ensures.given_up in
    still_works l s.service new.service s.items new.items c.args.job c.in-GoOn.back c.give_up.ensures.service so.2 so.1 c.requires.job
