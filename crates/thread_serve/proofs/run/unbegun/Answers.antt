-- A new session keeps what is promised.
use Rattle.thread_serve.proofs.Unbegun.{unbegun_so}
use Rattle.thread_serve.proofs.run.unbegun.Goals as goal

pub returns-clause-served : goal.returns-clause-served
returns-clause-served g c = λ limit.
    unbegun_so g.L.Language.lang limit (g.S.Source.left c.args.source) (g.K.Sink.contents c.args.sink) c.args.session c.requires.new c.history_law.ensures.legal c.none_due.ensures
