use Rattle.std.proofs.Common.{reverse, sym, ◌∙◌}
use Rattle.view_laws.specs.Callers.{worker_count}
use Rattle.view_laws.proofs.Holding.{held_log}
use Rattle.view_laws.proofs.Turns.{holder_free, nobody}
use Rattle.view_laws.proofs.working.holders_law.Goals as goal

pub returns-clause-held : goal.returns-clause-held
returns-clause-held g c = λ log who. held_log g.L.Language.lang log who

pub returns-clause-free : goal.returns-clause-free
returns-clause-free g c = λ log who are some.
    holder_free g.L.Language.lang c.a_message_is_asked_where_it_is_spelled.ensures (worker_count log) who (reverse log) are
    (λ none. some (sym (held_log g.L.Language.lang log who) ∙ none))

pub returns-clause-nobody : goal.returns-clause-nobody
returns-clause-nobody g c = λ log who are none.
    nobody g.L.Language.lang c.a_message_is_asked_where_it_is_spelled.ensures log who are none
