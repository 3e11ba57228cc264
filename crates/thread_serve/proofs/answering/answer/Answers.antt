-- Before the message is called the reader works by rounds.
use Rattle.std.proofs.Common.{[], ◌∷◌, None, refl, subst, ◌∙◌, rules}
use Rattle.hist_lock.specs.Passes.{view}
use Rattle.worker_loop.specs.Held.{held_in}
use Rattle.worker_loop.specs.Rounds.{GoesOn}
use Rattle.message_input.specs.declared.answering.Halt.TheVariants as halt
use Rattle.view_laws.specs.Says.{says}
use Rattle.thread_serve.specs.Reader.{Answers, IsReader, SeesWhy}
use Rattle.thread_serve.proofs.Answered.{may_pass}
use Rattle.thread_serve.proofs.Rested.{after_call, after_short, after_wait, of_error}
use Rattle.thread_serve.proofs.answering.answer.Goals as goal

pub returns-in-Replied-clause-ok : goal.returns-in-Replied-clause-ok
returns-in-Replied-clause-ok g c =
    let old = c.waiting.invariant in let q = c.take.new.pass in
    let so = after_call c.args.lock.now c.args.pass.now c.waiting.pass q old.2 old.3 c.take.ensures.own c.take.ensures.same c.waiting.message c.in-Replied.ensures.taken in
    (so.0, subst (λ message. Answers (view c.args.pass.now) (message ∷ []) (view q)) old.4 so.1)

pub pass_time-requires-clause-claimed : goal.pass_time-requires-clause-claimed
pass_time-requires-clause-claimed g c =
    may_pass g.L.Language.lang (view c.waiting.pass) (view c.take.new.pass) c.take.ensures.same c.in-Waits.claim c.waiting.invariant.2.free c.in-Waits.ensures.taken.1

pub waiting-preserved : goal.waiting-preserved
waiting-preserved g c =
    let old = c.waiting.invariant in let q = c.take.new.pass in let r = c.pass_time.new.pass in
    let went : GoesOn says (view q) (held_in says (view q).mine) (view r) None = search rules in
    let so = after_wait c.args.lock.now g.L.Language.lang c.args.pass.now c.waiting.pass q r old.2 old.3 c.pass_time.ensures.own c.take.ensures.same c.pass_time.ensures.same
    c.in-Waits.claim c.in-Waits.ensures.taken.1 went in
    (tt, tt, so.0, so.1, c.in-Waits.ensures.taken.0 ∙ old.4)

pub returns-in_err-pass_time-in-Waits-clause-err : goal.returns-in_err-pass_time-in-Waits-clause-err
returns-in_err-pass_time-in-Waits-clause-err g c =
    let old = c.waiting.invariant in let start = c.args.pass.now in let lock = c.args.lock.now in
    let q = c.take.new.pass in let r = c.pass_time.new.pass in let went = c.in_err-pass_time-in-Waits.ensures.err in
    of_error c.from_residual.result (λ why. IsReader lock r × Answers (view start) [] (view r) × SeesWhy why (view r)) c.from_residual.ensures.1
    (after_short lock g.L.Language.lang start c.waiting.pass q r old.2 old.3 c.pass_time.ensures.own c.take.ensures.same c.pass_time.ensures.same
    c.in-Waits.claim c.in-Waits.ensures.taken.1 halt.NoMemory refl went.0 went.1)
