-- The reader has not ended all, and claims as a worker does.
use Rattle.std.proofs.Common.{sym, ◌∙◌}
use Rattle.hist_lock.specs.Passes.{view}
use Rattle.thread_serve.proofs.Lists.{its_own}
use Rattle.thread_serve.proofs.Takes.{still_going, taken, takes_own}
use Rattle.thread_serve.proofs.crew.Crew.take.Goals as goal

pub turn-requires-clause-may : goal.turn-requires-clause-may
turn-requires-clause-may g c =
    let l = g.L.Language.lang in let v = view c.args.pass.now in let is = c.requires.reader in
    record {
      asked = λ x fits. still_going l c.reader_law.ensures.ended c.owners_law.ensures.own v is c.requires.going x fits;
      its_own = λ x y a e fits so grown. its_own 0 x.log y.log e (takes_own l c.args.message x y a so) grown ∙ sym is;
    }

pub returns-clause-taken : goal.returns-clause-taken
returns-clause-taken g c =
    let l = g.L.Language.lang in let v = view c.args.pass.now in let is = c.requires.reader in
    taken l c.args.message v (view c.turn.new.pass) is c.requires.free
    (λ x fits. still_going l c.reader_law.ensures.ended c.owners_law.ensures.own v is c.requires.going x fits)
    c.holders_law.ensures.held c.list_law.ensures.same c.works_law.ensures.stays c.handed_law.ensures.lost c.turn.result c.turn.ensures.turned
