-- Texts as scalars.
use Rattle.std.specs.Prelude.{ℕ, List, Option, Some, None, if◌then◌else◌}
use Rattle.std.specs.Str.{is_utf8, chars}

-- the scalars that the bytes spell in UTF-8 (The Unicode Standard, table 3-7)
abbrev pub scalars_of : List ℕ → Option (List ℕ)
scalars_of bytes = if is_utf8 bytes then Some (chars bytes) else None
