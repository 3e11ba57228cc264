use Rattle.std.proofs.Common.{◌≡◌, ◌<◌, ◌≤◌, length, get_or, take, map}
use Rattle.outer_syntax.specs.Boundaries.{number_at}
use Rattle.outer_syntax.proofs.boundaries.Boundaries.numbers.Given as goal

abbrev pub invariant-loop-offset : goal.invariant-loop-offset
invariant-loop-offset l = (l.numbers.items ≡ map (number_at l.self) (take l.offset-index l.offsets)) × (l.number < length l.self)
    × (l.offset-index < length l.offsets → get_or l.self l.number 0 ≤ get_or l.offsets l.offset-index 0)
