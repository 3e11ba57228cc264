-- What the owner and the thieves bring back: the tasks that each has done.
use Rattle.std.specs.Prelude.{◌≡◌, ℕ, List, [], map}
use Rattle.std.specs.Global.{Global}
use Rattle.std.specs.List.{All}
use Rattle.atomic_blocks.specs.Lent.{RowsId}
use Rattle.crossbeam_deque.specs.Handles.{IsPassOf, view}
use Rattle.task_round.specs.declared.hand.Hand.{Hand}
use Rattle.task_round.specs.declared.tasks.Done.{Done}
use Rattle.task_round.specs.declared.thieves.Thief.{Thief}
use Rattle.task_round.specs.declared.thieves.Haul.{Haul}
use Rattle.task_round.specs.Sharing.{hand}

-- the numbers of these tasks
abbrev pub numbers : {M : Type 0} → List (Done M) → List ℕ
numbers done = map (λ d. d.task) done

-- a thief of this deque, of so many tasks, that has taken none yet
abbrev pub IsThief : RowsId × Global → ℕ → Thief → Type 0
IsThief deque count thief = IsPassOf deque thief.share × (view thief.share ≡ hand 1 count [])

module _ {M : Type 0} (makes : ℕ → M → Type 0) where
  -- each of these tasks made what it makes
  abbrev pub AreDone : List (Done M) → Type 0
  AreDone done = All (λ d. makes d.task d.made) done

  -- a caller, of so many tasks, has done just those that it has taken
  pub record HasDone (count : ℕ) (v : Hand) (all : List (Done M)) : Type 0 where
    pub knows : v.count ≡ count
    pub taken : v.taken ≡ numbers all
    pub done : AreDone all

  -- a thief's one part, and the tasks that it has done
  abbrev pub IsHaul : RowsId × Global → ℕ → Haul M → Type 0
  IsHaul deque count haul =
      IsPassOf deque haul.share × ((view haul.share).parts ≡ 1)
      × HasDone count (view haul.share) haul.done.items
