-- Many workers at once.
use Rattle.std.specs.Prelude.{◌≡◌, ℕ, ◌+◌, ◌<◌, ◌≤◌, Bool, true, false, List, [], ◌∷◌, None, ⊤}
use Rattle.std.specs.List.{Contains}
use Rattle.hist_lock.specs.declared.state.State.{Ghosts}
use Rattle.hist_lock.specs.declared.view.View.{View}
use Rattle.hist_lock.specs.declared.view.Joined.{Joined}
use Rattle.hist_lock.specs.declared.pass.Pass.{Pass}
use Rattle.hist_lock.specs.declared.shared.Shared.{Shared}
use Rattle.hist_lock.specs.Known.{IsSameCaller}
use Rattle.hist_lock.specs.Passes.{view, IsPassOf}
use Rattle.worker_loop.specs.declared.said.Said.{Said}
use Rattle.worker_loop.specs.declared.worker.Shift.{Shift}
use Rattle.worker_loop.specs.declared.worker.Worked.{Worked}
use Rattle.worker_loop.specs.declared.worker.Worked.TheVariants as worked
use Rattle.worker_loop.specs.Held.{held_in}
use Rattle.worker_loop.specs.Worked.{WorkedSo}

module _ {E : Type 0} where
  -- the same caller with the same entries, which may have seen more and joined more passes
  abbrev pub HasGathered : View E → View E → Type 0
  HasGathered v w = w ≡ record v { seen = w.seen; joined = w.joined }

-- work ended so for want of memory
abbrev pub is_short : Worked → Bool
is_short worked.NoMemory = true
is_short other = false

module _ {E : Type 0} (says : E → Said) where
  -- each caller above low and up to high was joined, and holds nothing
  abbrev pub HoldNothing : ℕ → ℕ → View E → Type 0
  HoldNothing low high v = (c : ℕ) → low < c → c ≤ high
      → (r : Joined E) × Contains v.joined r × (r.caller ≡ c) × (held_in says r.mine ≡ None)

module _ {S E : Type 0} {g : Ghosts S E} (says : E → Said) (lock : Shared S E) where
  -- a pass of this lock, of the caller of this number, which holds no part
  abbrev pub IsWorker : ℕ → Pass S E g → Type 0
  IsWorker n p = IsPassOf lock p × ((view p).caller ≡ n) × (held_in says (view p).mine ≡ None)

  -- such passes, of the callers with the numbers from n on
  abbrev pub AreWorkers : ℕ → List (Pass S E g) → Type 0
  AreWorkers n [] = ⊤
  AreWorkers n (p ∷ ps) = IsWorker n p × AreWorkers (n + 1) ps

  -- this caller has worked and stopped
  abbrev pub HasWorked : Pass S E g → Shift S E g → Type 0
  HasWorked p s =
      IsPassOf lock s.pass × IsSameCaller (view p) (view s.pass)
      × WorkedSo says (view p) s.worked (view s.pass)

  -- each of these callers, in this order, has worked and stopped
  abbrev pub HaveWorked : List (Pass S E g) → List (Shift S E g) → Type 0
  HaveWorked [] [] = ⊤
  HaveWorked (p ∷ ps) (s ∷ ss) = HasWorked p s × HaveWorked ps ss
  HaveWorked _ _ = ⊥

  -- the worker of this number is back, and holds nothing except for want of memory
  abbrev pub IsBack : ℕ → Shift S E g → Type 0
  IsBack n s = IsPassOf lock s.pass × ((view s.pass).caller ≡ n)
      × (is_short s.worked ≡ false → held_in says (view s.pass).mine ≡ None)

  -- the workers with the numbers from n on are back
  abbrev pub AreBack : ℕ → List (Shift S E g) → Type 0
  AreBack n [] = ⊤
  AreBack n (s ∷ ss) = IsBack n s × AreBack (n + 1) ss
