-- How many bytes a run takes (this project's own).
use Rattle.std.specs.Prelude.{ℕ, ◌^◌}

-- so many bytes are too many for one run
abbrev pub input_limit : ℕ
input_limit = 2 ^ 40
