-- Pairs of parentheses, counted by the opening ones.
use Rattle.std.specs.Prelude.{ℕ, ◌+◌, List, [], ◌∷◌}
use Rattle.nj_syntax.specs.declared.token.Token.{Token}
use Rattle.nj_syntax.specs.declared.token.Token.TheVariants as Tokens

-- how many parentheses open among the tokens
abbrev pub opens : List Token → ℕ
opens [] = 0
opens (Tokens.Open ∷ tokens) = opens tokens + 1
opens (_ ∷ tokens) = opens tokens
