-- A list of parts with room for more.
use Rattle.std.specs.Prelude.{ℕ, ◌+◌, List, length}
use Rattle.pide_base.specs.declared.part.Part.{Part}

-- the parts, and how many more there is room for below and above them
pub record Deque : Type 0 where
  pub parts : List Part
  pub below : ℕ
  pub above : ℕ

-- how many parts there is room for in all
abbrev pub capacity_of : Deque → ℕ
capacity_of deque = deque.below + length deque.parts + deque.above
