use Rattle.std.proofs.Common.{◌≤◌, length}
use Rattle.document_serve.specs.Listening.{HearsOn}
use Rattle.document_serve.proofs.Wrote.{Goes}
use Rattle.document_serve.proofs.writing.write_heard.Given as goal

-- what is sent so far is written, a count has not fallen, and all of it was heard
abbrev pub invariant-sending : goal.invariant-sending
invariant-sending g l =
    Goes g.L.Language.lang (g.K.Sink.contents l.fn.sink) (g.K.Sink.contents l.sink) l.fn.session l.session
    × (g.K.Sink.faults l.fn.sink ≤ g.K.Sink.faults l.sink)
    × HearsOn g.L.Language.lang g.H.Listener.hears l.fn.session l.session l.fn.listener l.listener

abbrev pub decreases-sending : goal.decreases-sending
decreases-sending g l = length l.session.waiting
