-- The job is that of the part that is claimed; where nothing is claimed, the caller knows why.
use Rattle.std.proofs.Common.{sym, ◌∙◌}
use Rattle.hist_lock.specs.Passes.{view}
use Rattle.thread_serve.specs.declared.claiming.Claiming.TheVariants as claiming
use Rattle.thread_serve.proofs.Lists.{its_own}
use Rattle.thread_serve.proofs.Turns.{seen_ended, seen_lost, sees_on}
use Rattle.thread_serve.proofs.Claims.{Claims, claims_own, idle_so, job_made, job_right}
use Rattle.thread_serve.proofs.crew.CrewWorkLocked.claim.Goals as goal

pub turn-requires-clause-may : goal.turn-requires-clause-may
turn-requires-clause-may g c =
    let l = g.L.Language.lang in let who = c.args.who in record {
      asked = λ x fits. tt;
      its_own = λ x y a e fits so grown. its_own who x.log y.log e (claims_own l who x y a so) grown ∙ sym c.requires.who;
    }

pub returns-in-Job-clause-claimed : goal.returns-in-Job-clause-claimed
returns-in-Job-clause-claimed g c =
    let l = g.L.Language.lang in let who = c.args.who in let t = c.in-Job.ensures.turned in let work = c.in-Job.job in
    let v = view c.args.pass.now in let w = view c.turn.new.pass in let a = claiming.Job work c.in-Job.flag in (
      job_made l who v a w t work t.given.0,
      job_right l who v a w t c.list_law.ensures.same c.works_law.ensures.stays work t.given,
    )

pub returns-in-Nothing-clause-claimed : goal.returns-in-Nothing-clause-claimed
returns-in-Nothing-clause-claimed g c =
    let l = g.L.Language.lang in let who = c.args.who in let t = c.in-Nothing.ensures.turned in
    let v = view c.args.pass.now in let w = view c.turn.new.pass in (
      sees_on l (Claims l who) v claiming.Nothing w t t.given.0,
      idle_so l who v claiming.Nothing w t c.holders_law.ensures.held c.requires.who c.requires.free t.given.0 t.given.1 t.given.2 t.given.3,
    )

pub returns-in-Ended-clause-claimed : goal.returns-in-Ended-clause-claimed
returns-in-Ended-clause-claimed g c =
    let l = g.L.Language.lang in let who = c.args.who in let t = c.in-Ended.ensures.turned in
    let v = view c.args.pass.now in let w = view c.turn.new.pass in (
      sees_on l (Claims l who) v claiming.Ended w t t.given.0,
      seen_ended l (Claims l who) v claiming.Ended w t c.reader_law.ensures.ended t.given.0 t.given.1,
    )

pub returns-in-Lost-clause-claimed : goal.returns-in-Lost-clause-claimed
returns-in-Lost-clause-claimed g c =
    let l = g.L.Language.lang in let who = c.args.who in let t = c.in-Lost.ensures.turned in
    let v = view c.args.pass.now in let w = view c.turn.new.pass in (
      sees_on l (Claims l who) v claiming.Lost w t t.given.0,
      seen_lost l (Claims l who) v claiming.Lost w t c.handed_law.ensures.lost t.given.0 t.given.1,
    )
