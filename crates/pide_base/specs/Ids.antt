-- Ids of versions, commands and executions.
use Rattle.std.specs.Prelude.{ℕ, ◌<◌, ◌≤◌}

-- the smallest number that is no id any more: 10^18, so that each has at most 18 digits (this
-- project's own)
abbrev pub id_end : ℕ
id_end = 1000000000000000000

-- ids are 1 and up (this project's own)
abbrev pub IsId : ℕ → Type 0
IsId n = (1 ≤ n) × (n < id_end)
