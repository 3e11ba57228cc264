use Rattle.std.proofs.Common.{◌≡◌, ◌+◌, ◌≤◌, List, ℕ, length, vec_len}
use Rattle.std.specs.Io.KnownBytes.{Consumes}
use Rattle.message_input.specs.Answers.{KeepsUp}
use Rattle.message_input.proofs.input.take_input.Given as goal

-- what was taken so far is answered, and with the room left makes up the limit; no count has fallen
abbrev pub invariant-pulling : goal.invariant-pulling
invariant-pulling g l =
    ((taken : List ℕ) × Consumes (g.S.Source.left l.fn.source) (g.S.Source.left l.source) taken × (length taken + l.room ≡ l.fn.limit)
    × KeepsUp g.A.Answering.goes l.fn.answering taken l.answering l.frames)
    × (g.S.Source.faults l.fn.source ≤ g.S.Source.faults l.source) × g.A.Answering.rests l.answering × (vec_len l.buffer ≡ 65536)

abbrev pub decreases-pulling : goal.decreases-pulling
decreases-pulling g l = l.room
