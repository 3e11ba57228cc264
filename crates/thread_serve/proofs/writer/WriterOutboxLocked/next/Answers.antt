-- What the writer is handed is told by its own items.
use Rattle.std.proofs.Common.{sym, ap, ◌∙◌, length}
use Rattle.std.specs.Prelude.{◌+◌}
use Rattle.hist_lock.specs.Passes.{view}
use Rattle.hist_lock.specs.declared.view.View.{View}
use Rattle.reply_outbox.specs.declared.item.Item.TheVariants as item
use Rattle.thread_serve.specs.declared.sending.Sending.TheVariants as sending
use Rattle.document_session.specs.keeping_rules_below.Items.{SessionItem}
use Rattle.view_laws.specs.Callers.{worker_count}
use Rattle.thread_serve.proofs.Lists.{its_own}
use Rattle.thread_serve.proofs.Turns.{makes, seen_ended, sees_on}
use Rattle.thread_serve.proofs.Sends.{Sends, hands, hands_nothing, idle_so, sees_then, sends_own, still_unhanded}
use Rattle.thread_serve.proofs.writer.WriterOutboxLocked.next.Goals as goal

pub turn-requires-clause-may : goal.turn-requires-clause-may
turn-requires-clause-may g c =
    let l = g.L.Language.lang in let who = c.args.who in record {
      asked = λ x fits. tt;
      its_own = λ x y a e fits so grown. its_own who x.log y.log e (sends_own l who x y a so) grown ∙ sym c.requires.who;
    }

pub returns-in-Piece-clause-given : goal.returns-in-Piece-clause-given
returns-in-Piece-clause-given g c =
    let l = g.L.Language.lang in let who = c.args.who in let piece = c.in-Piece.piece in let t = c.in-Piece.ensures.turned in
    let v = view c.args.pass.now in let w = view c.turn.new.pass in let so = t.given in (
      makes l (Sends l who) v (sending.Piece piece) w t (item.Sent (worker_count t.before.log + 1) (length piece.items)) so.1.1,
      hands l who v (sending.Piece piece) w t c.requires.who c.requires.knows c.handed_law.ensures.next piece.items so.1.0.0 so.0 so.1.0.1 so.1.1,
    )

pub returns-in-Nothing-clause-given : goal.returns-in-Nothing-clause-given
returns-in-Nothing-clause-given g c =
    let l = g.L.Language.lang in let who = c.args.who in let t = c.in-Nothing.ensures.turned in
    let v = view c.args.pass.now in let w = view c.turn.new.pass in let same = t.given.2.0 in (
      sees_on l (Sends l who) v sending.Nothing w t same,
      hands_nothing l who v sending.Nothing w t c.requires.who c.requires.knows same,
      idle_so l who v sending.Nothing w t c.requires.who c.requires.knows c.handed_law.ensures.lost c.owners_law.ensures.own
          c.requires.only_sent t.given,
    )

pub returns-in-Ended-clause-given : goal.returns-in-Ended-clause-given
returns-in-Ended-clause-given g c =
    let l = g.L.Language.lang in let who = c.args.who in let t = c.in-Ended.ensures.turned in
    let v = view c.args.pass.now in let w = view c.turn.new.pass in (
      sees_on l (Sends l who) v sending.Ended w t t.given.0,
      hands_nothing l who v sending.Ended w t c.requires.who c.requires.knows t.given.0,
      seen_ended l (Sends l who) v sending.Ended w t c.reader_law.ensures.ended t.given.0 t.given.1,
    )

pub returns-in-NotWriter-clause-given : goal.returns-in-NotWriter-clause-given
returns-in-NotWriter-clause-given g c =
    let l = g.L.Language.lang in let who = c.args.who in let t = c.in-NotWriter.ensures.turned in let after = c.look_until_ended.ensures in
    let v = view c.args.pass.now in let w = view c.turn.new.pass in let x = view c.look_until_ended.new.pass in
    let sees = sees_then l v w x (sees_on l (Sends l who) v sending.NotWriter w t t.given.0) after.sees in
    let same = ap (λ (u : View SessionItem). u.caller) after.same ∙ ap (λ (u : View SessionItem). u.caller) t.rest in
    (sees, still_unhanded l who v x c.requires.who same c.requires.knows after.knows sees after.legal, after.ended)
