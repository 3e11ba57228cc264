-- The end is the reader's item.
use Rattle.std.proofs.Common.{[], ◌∷◌, inr, refl, sym, ◌∙◌}
use Rattle.hist_lock.specs.Passes.{view}
use Rattle.worker_loop.proofs.KnownGathered.{prefix_then}
use Rattle.worker_loop.proofs.KnownTurns.{turned_one}
use Rattle.reply_outbox.specs.declared.item.Item.TheVariants as item
use Rattle.session_rules.specs.declared.entry.Entry.TheVariants as entry
use Rattle.view_laws.specs.Callers.{whose}
use Rattle.view_laws.specs.Histories.{IsLegalLog}
use Rattle.thread_serve.proofs.Lists.{its_own}
use Rattle.thread_serve.proofs.Takes.{EndsSo, still_going}
use Rattle.thread_serve.proofs.Turns.{log_of}
use Rattle.thread_serve.proofs.crew.Crew.end.Goals as goal

pub turn-requires-clause-may : goal.turn-requires-clause-may
turn-requires-clause-may g c =
    let l = g.L.Language.lang in let v = view c.args.pass.now in let is = c.requires.reader in
    record {
      asked = λ x fits. still_going l c.reader_law.ensures.ended c.owners_law.ensures.own v is c.requires.going x fits;
      its_own = λ x y a e fits so grown. its_own 0 x.log y.log e (inr (item.Made entry.Ended, refl, so)) grown ∙ sym is;
    }

pub returns-clause-ended : goal.returns-clause-ended
returns-clause-ended g c =
    let t = c.turn.ensures.turned in
    turned_one log_of whose (IsLegalLog g.L.Language.lang) EndsSo (view c.args.pass.now) c.turn.result (view c.turn.new.pass) t (item.Made entry.Ended) t.given

pub returns-clause-seen : goal.returns-clause-seen
returns-clause-seen g c =
    let t = c.turn.ensures.turned in
    prefix_then (view c.args.pass.now).seen t.before.log (view c.turn.new.pass).seen t.fits.seen (item.Made entry.Ended ∷ [], sym (t.seen ∙ t.given))
