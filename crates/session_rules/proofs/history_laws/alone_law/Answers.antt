-- One thread has one way, and it has one.
use Rattle.session_rules.proofs.Exists.{some_run}
use Rattle.session_rules.proofs.Ways.{one_run, way_is}
use Rattle.session_rules.proofs.history_laws.alone_law.Goals as goal

pub returns-clause-way : goal.returns-clause-way
returns-clause-way g c = λ service h none is. way_is g.L.Language.lang c.a_message_is_asked_where_it_is_spelled.ensures service none
    (λ es p first. (c.first_law.ensures.first es p).1 first) (λ es. c.alone_law.ensures.rests es 0) h is

pub returns-clause-one : goal.returns-clause-one
returns-clause-one g c = λ service h k none is other calls. one_run g.L.Language.lang c.a_message_is_asked_where_it_is_spelled.ensures service none
    (λ es p first. (c.first_law.ensures.first es p).1 first) (λ es. c.alone_law.ensures.rests es 0) h is k other calls

pub returns-clause-some : goal.returns-clause-some
returns-clause-some g c = λ service messages none. some_run g.L.Language.lang (record {
  given = λ h p first. (c.first_law.ensures.first h p).0 first;
  rests = λ h k one. c.rest_law.ensures h k one;
  ends = λ h. c.alone_law.ensures.rests h 0;
  events = c.events_law.ensures.legal;
}) c.a_message_is_asked_where_it_is_spelled.ensures service none messages
