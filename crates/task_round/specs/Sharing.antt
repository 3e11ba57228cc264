-- The rule of the deque: what its callers know of the tasks.
use Rattle.std.specs.Prelude.{◌≡◌, ℕ, ◌+◌, ◌^◌, ◌<◌, List, [], ◌++◌}
use Rattle.std.specs.List.{All, sum_by, range_with_len}
use mathlib.Core.Option.{some}
use lib.ListN.{get_elem?}
use Rattle.task_round.specs.declared.hand.Hand.{Hand}

-- more parts than there can be callers
abbrev pub all_parts : ℕ
all_parts = 2 ^ 32

abbrev pub hand : ℕ → ℕ → List ℕ → Hand
hand parts count taken = record { parts = parts; count = count; taken = taken }

-- what two callers know together
abbrev pub joined : Hand → Hand → Hand
joined v w = hand (v.parts + w.parts) v.count (v.taken ++ w.taken)

-- a caller with a part knows how many tasks there are, and one without has taken none
pub record Fits (count : ℕ) (v : Hand) : Type 0 where
  pub knows : 0 < v.parts → v.count ≡ count
  pub idle : v.parts ≡ 0 → v.taken ≡ []

-- each task was taken by one caller, or is in the deque
pub record AreShared (items : List ℕ) (hands : List Hand) : Type 0 where
  pub count : ℕ
  pub parts : sum_by (λ v. v.parts) hands ≡ all_parts
  pub once : (weight : ℕ → ℕ) → sum_by weight (range_with_len 0 count)
      ≡ sum_by (λ v. sum_by weight v.taken) hands + sum_by weight items
  pub fits : (port : ℕ) (v : Hand) → get_elem? hands port ≡ some v → Fits count v

-- a caller takes tasks
abbrev pub TakesSo : Hand → List ℕ → Hand → Type 0
TakesSo v tasks w =
    (w ≡ hand v.parts v.count (v.taken ++ tasks)) × All (λ task. task < v.count) tasks
