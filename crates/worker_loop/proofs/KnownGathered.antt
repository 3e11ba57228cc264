-- The passes of workers, joined one by one into the first caller's, the last worker's first.
use Rattle.std.proofs.Common.{◌≡◌, ℕ, ◌+◌, false, List, [], ◌∷◌, ◌++◌, length, None, Option, Some, IfSome, length-append, append_assoc, refl, sym, ap, subst, ◌∙◌, arith}
use mathlib.Core.Logic.{dite}
use mathlib.Core.List.{IsPrefix}
use native.Mathlib.Decide.{ℕ_discrete}
use Rattle.std.proofs.lemmas.Bool.{false≢true}
use Rattle.std.proofs.lemmas.List.Elements.{Contains-append_left, Contains-append_right}
use Rattle.std.specs.List.{Contains}
use Rattle.hist_lock.specs.declared.state.State.{Ghosts}
use Rattle.hist_lock.specs.declared.view.View.{View}
use Rattle.hist_lock.specs.declared.view.Joined.{Joined}
use Rattle.hist_lock.specs.declared.pass.Pass.{Pass}
use Rattle.hist_lock.specs.declared.shared.Shared.{Shared}
use Rattle.hist_lock.specs.Callers.{HasJoined, brings}
use Rattle.hist_lock.specs.Passes.{view}
use Rattle.worker_loop.specs.declared.said.Said.{Said}
use Rattle.worker_loop.specs.declared.worker.Shift.{Shift}
use Rattle.worker_loop.specs.declared.worker.Worked.{Worked}
use Rattle.worker_loop.specs.declared.worker.Worked.TheVariants as worked
use Rattle.worker_loop.specs.Held.{held_in}
use Rattle.worker_loop.specs.Worked.{WorkedSo}
use Rattle.worker_loop.specs.Crew.{AreBack, AreWorkers, HasGathered, HasWorked, HaveWorked, HoldNothing, IsBack, IsWorker, is_short}
use Rattle.worker_loop.proofs.KnownRounds.{goes_held}

module _ {E : Type 0} (v u w : View E) (joined : HasJoined v u w) where
  now_joined : w.joined ≡ v.joined ++ brings u
  now_joined = ap (λ (z : View E). z.joined) joined

  module _ (says : E → Said) where
    -- whoever holds nothing still does after a join
    pub nothing_kept : (low high : ℕ) → HoldNothing says low high v → HoldNothing says low high w
    nothing_kept low high before c above below = let r = before c above below in
        (r.0, subst (λ (js : List (Joined E)). Contains js r.0) (sym now_joined) (Contains-append_left v.joined (brings u) r.0 r.1), r.2, r.3)

    -- the callers above low + 1 hold nothing, and then that of low + 1 does
    pub nothing_from : (low high : ℕ) → u.caller ≡ low + 1 → held_in says u.mine ≡ None → HoldNothing says (low + 1) high v → HoldNothing says low high w
    nothing_from low high is free before c above below = dite (ℕ_discrete c (low + 1))
        (λ e. (
          record { caller = u.caller; mine = u.mine },
          subst (λ (js : List (Joined E)). Contains js (record { caller = u.caller; mine = u.mine })) (sym now_joined)
              (Contains-append_right v.joined (brings u) (record { caller = u.caller; mine = u.mine }) (0, omega arith, refl)),
          is ∙ sym e,
          free,
        ))
        (λ n. nothing_kept (low + 1) high before c (omega arith) below)

module _ {E : Type 0} (says : E → Said) where
  free_after : (why : Worked) (v w : View E) → held_in says v.mine ≡ None → WorkedSo says v why w → is_short why ≡ false → held_in says w.mine ≡ None
  free_after worked.Ended v w free went long = goes_held says v w None None free went.0
  free_after worked.WriteFault v w free went long = goes_held says v w None None free went.0
  free_after worked.NoMemory v w free went long = absurd (false≢true (sym long))

pub prefix_then : {E : Type 0} (xs ys zs : List E) → IsPrefix xs ys → IsPrefix ys zs → IsPrefix xs zs
prefix_then xs ys zs p q = (p.0 ++ q.0, sym (append_assoc xs p.0 q.0) ∙ (ap (λ l. l ++ q.0) p.1 ∙ q.1))

-- one more pass was joined
pub gathered_then : {E : Type 0} (a b u c : View E) → HasGathered a b → HasJoined b u c → HasGathered a c
gathered_then {E} a b u c first second = second ∙ (ap (λ (js : List (Joined E)). record b { seen = c.seen; joined = js }) (sym (ap (λ (z : View E). z.joined) second))
    ∙ ap (λ (z : View E). record z { seen = c.seen; joined = c.joined }) first)

module _ {S E : Type 0} {g : Ghosts S E} (says : E → Said) (lock : Shared S E) where
  back_before : (n : ℕ) (ss : List (Shift S E g)) (s : Shift S E g) → AreBack says lock n (ss ++ s ∷ []) → AreBack says lock n ss
  back_before n [] s b = tt
  back_before n (t ∷ ss) s b = (b.0, back_before (n + 1) ss s b.1)

  back_last : (n : ℕ) (ss : List (Shift S E g)) (s : Shift S E g) → AreBack says lock n (ss ++ s ∷ []) → IsBack says lock (n + length ss) s
  back_last n [] s b = let none : n ≡ n + 0 = omega arith in subst (λ m. IsBack says lock m s) none b.0
  back_last n (t ∷ ss) s b = let e : (n + 1) + length ss ≡ n + length (t ∷ ss) = omega arith in
      subst (λ m. IsBack says lock m s) e (back_last (n + 1) ss s b.1)

  -- what was taken from the end is the last worker's
  pub back_popped : (r : Option (Shift S E g)) (old new : List (Shift S E g)) → AreBack says lock 1 old → IfSome r (λ s. old ≡ new ++ s ∷ [])
      → IfSome r (λ s. IsBack says lock (length old) s × AreBack says lock 1 new)
  back_popped None old new b taken = tt
  back_popped (Some s) old new b taken =
      let all = subst (AreBack says lock 1) taken b in
      let count : 1 + length new ≡ length old = omega (arith, ap length taken, length-append new (s ∷ [])) in
      (subst (λ m. IsBack says lock m s) count (back_last 1 new s all), back_before 1 new s all)

  is_back : (n : ℕ) (p : Pass S E g) (s : Shift S E g) → IsWorker says lock n p → HasWorked says lock p s → IsBack says lock n s
  is_back n p s w h = (h.0, ap (λ (v : View E). v.caller) h.1 ∙ w.1, free_after says s.worked (view p) (view s.pass) w.2 h.2)

  -- workers that have worked are back
  pub are_back : (n : ℕ) (ps : List (Pass S E g)) (ss : List (Shift S E g)) → AreWorkers says lock n ps → HaveWorked says lock ps ss → AreBack says lock n ss
  are_back n [] [] w h = tt
  are_back n [] (s ∷ ss) w h = absurd h
  are_back n (p ∷ ps) [] w h = absurd h
  are_back n (p ∷ ps) (s ∷ ss) w h = (is_back n p s w.0 h.0, are_back (n + 1) ps ss w.1 h.1)
