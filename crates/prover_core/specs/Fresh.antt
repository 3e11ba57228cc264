-- New executions, with their tasks, as they are put into tables (this project's own).
use Rattle.std.specs.Prelude.{◌≡◌, ℕ, suc, ◌<◌, ◌≤◌, ◌==◌, true, false, if◌then◌else◌, List, [], ◌∷◌, ⊤, Option, Some, None}
use Rattle.std.specs.Option.{option_map_or}
use Rattle.core_tables.specs.declared.task.Standing.{Standing}
use Rattle.text_words.specs.Members.{has}
use Rattle.core_tables.specs.declared.execution.Execution.{Execution}
use Rattle.update_plans.specs.declared.known.Known.{Known}
use Rattle.update_plans.specs.declared.beginning.Fresh.{Fresh}

-- the number of a new execution
abbrev pub number_of : Fresh → ℕ
number_of fresh = fresh.task.part.exec

-- the new execution of a number
abbrev pub fresh_at : List Fresh → ℕ → Option Fresh
fresh_at [] e = None
fresh_at (fresh ∷ more) e = if number_of fresh == e then Some fresh else fresh_at more e

-- what is at a number, once something is put in for each new execution
abbrev pub with_fresh : {A : Type 0} → (Fresh → A) → List Fresh → (ℕ → Option A) → ℕ → Option A
with_fresh of more table e = option_map_or (λ fresh. Some (of fresh)) (fresh_at more e) (table e)

-- new executions have numbers from this on, which rise, and wait for older ones
abbrev pub RiseFrom : ℕ → List Fresh → Type 0
RiseFrom n [] = ⊤
RiseFrom n (fresh ∷ more) = (n ≤ number_of fresh)
    × ((e : ℕ) → has fresh.task.inputs e ≡ true → e < number_of fresh)
    × RiseFrom (suc (number_of fresh)) more

-- nothing is there from this number on
abbrev pub IsEmptyFrom : {A : Type 0} → ℕ → (ℕ → Option A) → Type 0
IsEmptyFrom n table = (e : ℕ) → n ≤ e → table e ≡ None

-- no task waits for what has a number from this on
abbrev pub WaitBelow : ℕ → (ℕ → Option Standing) → Type 0
WaitBelow n tasks = (e f : ℕ) → n ≤ e
    → option_map_or (λ s. has s.inputs e) (tasks f) false ≡ false

-- new executions can be put in: nothing is there from some number on, which they have
pub record AreNew {R : Type 0} (more : List Fresh) (rows : ℕ → Option (Execution R))
    (homes : ℕ → Option Known) (tasks : ℕ → Option Standing) : Type 0 where
  pub first : ℕ
  pub rises : RiseFrom first more
  pub no_rows : IsEmptyFrom first rows
  pub no_homes : IsEmptyFrom first homes
  pub no_tasks : IsEmptyFrom first tasks
  pub waiters : WaitBelow first tasks
