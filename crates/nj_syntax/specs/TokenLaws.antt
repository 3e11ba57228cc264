-- What holds of the tokens of texts.
use Rattle.std.specs.Prelude.{◌≡◌, ℕ, Bool, List}
use Rattle.nj_syntax.specs.declared.token.Placed.{Placed}
use Rattle.nj_syntax.specs.Tokens.{AreTokens, cut_of}

-- each text has tokens, which the recursion gives, and it has no others
pub record HasOneCut : Type 0 where
  pub has : (text : List ℕ) →
      AreTokens 0 text (cut_of text).tokens (cut_of text).stop (cut_of text).whole
  pub one : (text : List ℕ) (ts : List Placed) (stop : ℕ) (whole : Bool) →
      AreTokens 0 text ts stop whole
      → cut_of text ≡ record { tokens = ts; stop = stop; whole = whole }
