use Rattle.std.proofs.Common.{◌≡◌, ◌+◌, ◌-◌, ◌≤◌, length}
use Rattle.std.specs.Io.KnownBytes.{Consumes}
use Rattle.pide_check.specs.Reading.{most_bytes}
use Rattle.pide_check.proofs.reading.read_text.Given as goal

-- the bytes that were taken, never more than one too many, into a buffer that stays
abbrev pub invariant-pulling : goal.invariant-pulling
invariant-pulling g l =
    Consumes (g.S.Source.left l.fn.source) (g.S.Source.left l.source) l.bytes.items
    × (length l.bytes.items ≤ most_bytes + 1) × (length l.buffer.items ≡ 65536)
    × (g.S.Source.faults l.fn.source ≤ g.S.Source.faults l.source)

abbrev pub decreases-pulling : goal.decreases-pulling
decreases-pulling g l = most_bytes + 1 - length l.bytes.items
