-- Chunks that are too long for a message.
use Rattle.std.specs.Prelude.{ℕ, nat_lt, List, filter, map, length}
use Rattle.byte_message.specs.Limits.{longest_chunk}

-- the lengths of those chunks, in order
abbrev pub long_lengths : List (List ℕ) → List ℕ
long_lengths chunks = filter (nat_lt longest_chunk) (map length chunks)
