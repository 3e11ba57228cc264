use Rattle.keeping_rules.proofs.Sent.{front_sent, joined}
use Rattle.keeping_rules.proofs.list_laws.sent_law.Goals as goal

pub returns-clause-front : goal.returns-clause-front
returns-clause-front g c = λ service items are. front_sent g.L.Language.lang service items are

pub returns-clause-joined : goal.returns-clause-joined
returns-clause-joined g c = λ service h. joined g.L.Language.lang service h
