-- How deep a formula or a term may be (this project's own).
use Rattle.std.specs.Prelude.{ℕ}

-- under how many operators, quantifiers and parentheses a token may stand
abbrev pub deepest : ℕ
deepest = 200
