use Rattle.view_laws.proofs.Begins.{legal_begins, legal_log, same_workers, tells_workers}
use Rattle.view_laws.proofs.Turns.{nothing_due}
use Rattle.view_laws.proofs.laws.list_law.Goals as goal

pub returns-clause-workers : goal.returns-clause-workers
returns-clause-workers g c = λ count items are. tells_workers g.L.Language.lang count items are

pub returns-clause-legal : goal.returns-clause-legal
returns-clause-legal g c = λ count items are. legal_log g.L.Language.lang count items are

pub returns-clause-same : goal.returns-clause-same
returns-clause-same g c = λ seen log some p. same_workers seen log some p

pub returns-clause-begins : goal.returns-clause-begins
returns-clause-begins g c = λ seen log some p are. legal_begins g.L.Language.lang seen log some p are

pub returns-clause-nothing_due : goal.returns-clause-nothing_due
returns-clause-nothing_due g c = λ count items.
    nothing_due g.L.Language.lang c.a_message_is_asked_where_it_is_spelled.ensures count items
