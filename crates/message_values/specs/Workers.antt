-- Workers that messages name.
use Rattle.std.specs.Prelude.{ℕ, ◌≤◌, nat_le, ◌&&◌, if◌then◌else◌, Option, Some, None}

-- the most workers (this project's own)
abbrev pub most_workers : ℕ
most_workers = 16

-- 1 and up
abbrev pub IsWorker : ℕ → Type 0
IsWorker n = (1 ≤ n) × (n ≤ most_workers)

-- the worker of a number
abbrev pub worker_of : ℕ → Option ℕ
worker_of n = if nat_le 1 n && nat_le n most_workers then Some n else None
