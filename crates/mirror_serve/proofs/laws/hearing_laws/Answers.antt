use Rattle.mirror_serve.proofs.laws.hearing_laws.Goals as goal

pub returns : goal.returns
returns g c = record {
  lists = record { legal = c.history_law.ensures.legal; sends = c.sent_law.ensures.front; join = c.sent_law.ensures.joined };
  readable = c.readable_law.ensures;
  streams = record {
    one = c.one_reading.ensures;
    spelled = c.written_is_read.ensures.spelled;
    longer = c.longer_streams.ensures.longer;
    bad = c.longer_streams.ensures.bad;
    back = c.what_is_written_is_read_back.ensures.back;
  };
  moves = c.moves_law.ensures;
}
