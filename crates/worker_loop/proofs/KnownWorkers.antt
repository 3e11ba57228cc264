-- The last of many workers.
use Rattle.std.proofs.Common.{◌≡◌, ℕ, ◌+◌, List, [], ◌∷◌, ◌++◌, length, subst, ap, Option, None, Some, IfSome, length-append, arith}
use Rattle.hist_lock.specs.declared.state.State.{Ghosts}
use Rattle.hist_lock.specs.declared.pass.Pass.{Pass}
use Rattle.hist_lock.specs.declared.shared.Shared.{Shared}
use Rattle.worker_loop.specs.declared.said.Said.{Said}
use Rattle.worker_loop.specs.declared.worker.Shift.{Shift}
use Rattle.worker_loop.specs.Crew.{AreWorkers, HasWorked, HaveWorked, IsWorker}

module _ {S E : Type 0} {g : Ghosts S E} (says : E → Said) (lock : Shared S E) where
  pub workers_before : (n : ℕ) (ps : List (Pass S E g)) (p : Pass S E g) → AreWorkers says lock n (ps ++ p ∷ []) → AreWorkers says lock n ps
  workers_before n [] p w = tt
  workers_before n (q ∷ ps) p w = (w.0, workers_before (n + 1) ps p w.1)

  pub workers_last : (n : ℕ) (ps : List (Pass S E g)) (p : Pass S E g) → AreWorkers says lock n (ps ++ p ∷ []) → IsWorker says lock (n + length ps) p
  workers_last n [] p w = let none : n ≡ n + 0 = omega arith in subst (λ m. IsWorker says lock m p) none w.0
  workers_last n (q ∷ ps) p w = let e : (n + 1) + length ps ≡ n + length (q ∷ ps) = omega arith in
      subst (λ m. IsWorker says lock m p) e (workers_last (n + 1) ps p w.1)

  -- one worker more
  pub workers_more : (n m : ℕ) (ps : List (Pass S E g)) (p : Pass S E g) → m ≡ n + length ps → AreWorkers says lock n ps → IsWorker says lock m p
      → AreWorkers says lock n (ps ++ p ∷ [])
  workers_more n m [] p e all one = let same : m ≡ n = omega arith in (subst (λ k. IsWorker says lock k p) same one, tt)
  workers_more n m (q ∷ ps) p e all one = let next : m ≡ (n + 1) + length ps = omega arith in (all.0, workers_more (n + 1) m ps p next all.1 one)

  -- the pass that was taken from the end is the last worker's
  pub workers_popped : (r : Option (Pass S E g)) (old new : List (Pass S E g)) → AreWorkers says lock 1 old → IfSome r (λ p. old ≡ new ++ p ∷ [])
      → IfSome r (λ p. IsWorker says lock (length old) p × AreWorkers says lock 1 new)
  workers_popped None old new w taken = tt
  workers_popped (Some p) old new w taken =
      let all = subst (AreWorkers says lock 1) taken w in
      let count : 1 + length new ≡ length old = omega (arith, ap length taken, length-append new (p ∷ [])) in
      (subst (λ m. IsWorker says lock m p) count (workers_last 1 new p all), workers_before 1 new p all)

  pub worked_more : (ps : List (Pass S E g)) (ss : List (Shift S E g)) (p : Pass S E g) (s : Shift S E g)
      → HaveWorked says lock ps ss → HasWorked says lock p s → HaveWorked says lock (ps ++ p ∷ []) (ss ++ s ∷ [])
  worked_more [] [] p s all last = (last, tt)
  worked_more [] (t ∷ ss) p s all last = absurd all
  worked_more (q ∷ ps) [] p s all last = absurd all
  worked_more (q ∷ ps) (t ∷ ss) p s all last = (all.0, worked_more ps ss p s all.1 last)
