-- The limits of a message (this project's own).
use Rattle.std.specs.Prelude.{ℕ}

-- the most bytes before a line's newline
abbrev pub longest_line : ℕ
longest_line = 200

-- the most chunks of a message
abbrev pub most_chunks : ℕ
most_chunks = 16

-- the most bytes of a chunk, 2^24
abbrev pub longest_chunk : ℕ
longest_chunk = 16777216
