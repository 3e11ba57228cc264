-- Blanks, over bytes or scalars alike.
use Rattle.std.specs.Prelude.{ℕ, Bool, ◌||◌, ◌==◌}

-- space, tab, CR and LF (Isabelle's outer syntax, in this project's profile)
abbrev pub is_blank : ℕ → Bool
is_blank c = c == 32 || c == 9 || c == 13 || c == 10
