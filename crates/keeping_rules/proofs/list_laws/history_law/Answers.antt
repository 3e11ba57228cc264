use Rattle.keeping_rules.specs.Items.{heard_in}
use Rattle.keeping_rules.proofs.Heard.{heard_legal}
use Rattle.keeping_rules.proofs.list_laws.history_law.Goals as goal

pub returns-clause-legal : goal.returns-clause-legal
returns-clause-legal g c = λ service items are. heard_legal g.L.Language.lang service items are

pub returns-clause-events : goal.returns-clause-events
returns-clause-events g c = λ service items are.
    c.events_law.ensures.legal service (heard_in service items) (heard_legal g.L.Language.lang service items are)

pub returns-clause-agree : goal.returns-clause-agree
returns-clause-agree g c = λ service items are.
    c.events_law.ensures.agree service (heard_in service items) (heard_legal g.L.Language.lang service items are)
