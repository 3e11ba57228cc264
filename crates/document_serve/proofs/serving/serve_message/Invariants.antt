use Rattle.std.proofs.Common.{◌+◌, ◌-◌, ◌≤◌}
use Rattle.document_serve.specs.Listening.{HearsOn}
use Rattle.document_serve.proofs.At.{IsAt, events_of}
use Rattle.session_rules.proofs.KnownResting.{finishes, made}
use Rattle.document_serve.proofs.serving.serve_message.Given as goal

-- the message waits, a count has not fallen, and all that was sent was heard
abbrev pub invariant-waiting : goal.invariant-waiting
invariant-waiting g l =
    IsAt g.L.Language.lang (g.K.Sink.contents l.fn.sink) (g.K.Sink.contents l.sink) l.fn.session l.session l.fn.message l.message
    × (g.K.Sink.faults l.fn.sink ≤ g.K.Sink.faults l.sink)
    × HearsOn g.L.Language.lang g.H.Listener.hears l.fn.session l.session l.fn.listener l.listener

-- each part that is worked on is one of those there were
abbrev pub decreases-waiting : goal.decreases-waiting
decreases-waiting g l =
    (finishes (events_of g.L.Language.lang l.fn.session) + made g.L.Language.lang (events_of g.L.Language.lang l.fn.session))
    - finishes (events_of g.L.Language.lang l.session)
