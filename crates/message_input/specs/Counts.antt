-- What a halt tells of a sink (this project's own).
use Rattle.std.specs.Prelude.{ℕ, ◌≤◌}
use Rattle.pide_base.specs.Faults.{Rose}
use Rattle.message_input.specs.declared.answering.Halt.{Halt}
use Rattle.message_input.specs.declared.answering.Halt.TheVariants as halt

-- its count of faults never falls, and rises where writing fails; who writes replies of any length
-- doesn't halt for one that is long
abbrev pub CountsSo : Halt → ℕ → ℕ → Type 0
CountsSo halt.WriteFault before now = Rose before now
CountsSo halt.NoMemory before now = before ≤ now
CountsSo (halt.BadReply len) before now = ⊥
