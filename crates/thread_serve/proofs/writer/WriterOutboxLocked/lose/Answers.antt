-- Who was handed replies is the writer, and has not lost the sink.
use Rattle.std.proofs.Common.{inr, sym, ◌∙◌}
use Rattle.std.specs.Prelude.{◌+◌}
use Rattle.hist_lock.specs.Passes.{view}
use Rattle.reply_outbox.specs.declared.item.Item.TheVariants as item
use Rattle.view_laws.specs.Callers.{worker_count}
use Rattle.thread_serve.proofs.Lists.{its_own}
use Rattle.thread_serve.proofs.Sends.{loses, not_lost, writer_is}
use Rattle.thread_serve.proofs.writer.WriterOutboxLocked.lose.Goals as goal

pub turn-requires-clause-may : goal.turn-requires-clause-may
turn-requires-clause-may g c =
    let l = g.L.Language.lang in let v = view c.args.pass.now in let who = c.args.who in let is = c.requires.who in let only = c.requires.only_sent in
    record {
      asked = λ x fits. not_lost l v who is x fits c.handed_law.ensures.lost c.owners_law.ensures.own only
          (writer_is l v who is x fits c.handed_law.ensures.writer only c.requires.handed);
      its_own = λ x y a e fits so grown. its_own who x.log y.log e
          (inr (item.Lost (worker_count x.log + 1), sym (writer_is l v who is x fits c.handed_law.ensures.writer only c.requires.handed), so)) grown ∙ sym is;
    }

pub returns-clause-lost : goal.returns-clause-lost
returns-clause-lost g c =
    let l = g.L.Language.lang in let v = view c.args.pass.now in let who = c.args.who in let is = c.requires.who in
    let t = c.turn.ensures.turned in
    loses l who c.turn.result v (view c.turn.new.pass) t is c.requires.knows c.handed_law.ensures.loses
    (writer_is l v who is t.before t.fits c.handed_law.ensures.writer c.requires.only_sent c.requires.handed)
