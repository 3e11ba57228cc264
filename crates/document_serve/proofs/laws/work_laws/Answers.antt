use Rattle.document_serve.proofs.laws.work_laws.Goals as goal

pub returns : goal.returns
returns g c = record {
  lists = c.list_laws.ensures;
  events = c.history_law.ensures.events;
  first = λ h p first. (c.first_law.ensures.first h p).1 first;
  rests = λ h k one. c.rest_law.ensures h k one;
  ends = λ h. c.alone_law.ensures.rests h 0;
  asks = c.a_message_is_asked_where_it_is_spelled.ensures;
}
