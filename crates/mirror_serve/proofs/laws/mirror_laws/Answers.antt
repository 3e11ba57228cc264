use Rattle.mirror_serve.proofs.laws.mirror_laws.Goals as goal

pub returns : goal.returns
returns g c = record {
  hearing = c.hearing_laws.ensures;
  sees = c.mirror_law.ensures.sees;
  waits = c.mirror_law.ensures.waits;
  asks = c.a_message_is_asked_where_it_is_spelled.ensures;
}
