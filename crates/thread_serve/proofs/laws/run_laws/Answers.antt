use Rattle.thread_serve.proofs.laws.run_laws.Goals as goal

pub returns : goal.returns
returns g c = record {
  lists = record {
    history = c.history_law.ensures.legal;
    front = c.sent_law.ensures.front;
    join = c.sent_law.ensures.joined;
    workers = c.list_law.ensures.workers;
    legal = c.list_law.ensures.legal;
  };
  callers = record {
    its_own = c.owners_law.ensures.own;
    ended = c.reader_law.ensures.ended;
    lost = c.handed_law.ensures.lost;
    others = c.handed_law.ensures.others;
    all = c.handed_law.ensures.all;
    nobody = c.holders_law.ensures.nobody;
  };
}
