-- What is popped is the last worker's.
use Rattle.std.proofs.Common.{◌≡◌, [], ◌∷◌, ◌++◌, IfSome, length, vec_len, subst, rules}
use Rattle.worker_loop.specs.Crew.{AreBack, IsBack}
use Rattle.worker_loop.proofs.KnownGathered.{back_popped}
use Rattle.worker_loop.proofs.gathering.last_shift.Goals as goal

pub returns-clause-back : goal.returns-clause-back
returns-clause-back g c =
    let old = c.args.shifts.now.items in let new = c.pop.new.self.items in
    let taken : IfSome c.pop.result (λ s. old ≡ new ++ s ∷ []) = search rules in
    let says = g.W.Work.says in let lock = c.args.lock.now in
    let count : length old ≡ vec_len c.args.shifts.now = search rules in
    subst (λ n. IfSome c.pop.result (λ s. IsBack says lock n s × AreBack says lock 1 new)) count
    (back_popped says lock c.pop.result old new c.requires.back taken)
