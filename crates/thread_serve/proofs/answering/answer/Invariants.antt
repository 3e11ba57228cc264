use Rattle.std.proofs.Common.{◌≡◌, []}
use Rattle.hist_lock.specs.Passes.{view}
use Rattle.thread_serve.specs.Reader.{Answers, IsAtRest}
use Rattle.thread_serve.proofs.answering.answer.Given as goal

-- the reader rests, has called nothing yet, and has the message back
abbrev pub invariant-waiting : goal.invariant-waiting
invariant-waiting g l =
    (goal.iterator-waiting g).can_next l.iterator' × (goal.iterator-waiting g).is_finite l.iterator'
    × IsAtRest l.lock l.pass × Answers (view l.initial.pass) [] (view l.pass) × (l.message ≡ l.initial.message)
