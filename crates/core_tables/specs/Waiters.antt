-- Which tasks wait for an execution, as the code keeps it: the waiters of each are numbered from 0.
use Rattle.std.specs.Prelude.{◌≡◌, ℕ, ◌<◌, min, Some, IsSome}
use Rattle.std.specs.HashMap.{spare}
use Rattle.std.specs.Map.{lookup}
use Rattle.std.specs.Option.{option_map_or}
use Rattle.std.specs.Prelude.{◌==◌, ◌&&◌, Option}
use Rattle.core_tables.specs.declared.waiters.Waiters.{Waiters}

-- how many waiters of the execution are kept
abbrev pub count_of : Waiters → ℕ → ℕ
count_of waiters e = option_map_or (λ n. n) (lookup (λ x. e == x) waiters.counts.entries) 0

-- the waiter of this number
abbrev pub link_of : Waiters → ℕ → ℕ → Option ℕ
link_of waiters e n =
    lookup (λ x. (e == x.input) && (n == x.number)) waiters.links.entries

-- w is kept as one that waits for e
abbrev pub Waits : Waiters → ℕ → ℕ → Type 0
Waits waiters e w = (n : ℕ) × (n < count_of waiters e) × (link_of waiters e n ≡ Some w)

-- each number below the count has its waiter
abbrev pub HasAll : Waiters → Type 0
HasAll waiters = (e n : ℕ) → n < count_of waiters e → IsSome (link_of waiters e n)

-- how many more waiters fit without memory
abbrev pub room_of : Waiters → ℕ
room_of waiters = min (spare waiters.counts) (spare waiters.links)
