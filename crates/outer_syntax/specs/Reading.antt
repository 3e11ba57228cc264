-- What has been read of a header, token by token (this project's own).
use Rattle.std.specs.Prelude.{ℕ, if◌then◌else◌, List, [], ◌∷◌, ◌++◌, Option, None, Some}
use Rattle.outer_syntax.specs.Kinds.{is_proper}
use Rattle.outer_syntax.specs.Tokens.{text_of}
use Rattle.outer_syntax.specs.Words.{is_in_force}
use Rattle.outer_syntax.specs.Stages.{after_token, is_ended}
use Rattle.outer_syntax.specs.Lexing.{tokens_under}
use Rattle.outer_syntax.specs.declared.stage.Stage.TheVariants.{Start, Name, Import, PairName, Pair}
use Rattle.outer_syntax.specs.declared.stage.Stage.{Stage}
use Rattle.outer_syntax.specs.declared.token.Token.{Token}
use Rattle.outer_syntax.specs.Headers.{pair_of}
use Rattle.outer_syntax.specs.declared.parts.Header.{Header}
use Rattle.outer_syntax.specs.declared.read.Reading.{Reading}

-- nothing has been read
abbrev pub empty_reading : Reading
empty_reading = record {
  stage = Start;
  header = record { name = []; imports = []; keywords = [] };
  pair = [];
}

-- what is told with the word by which the header came to the stage
abbrev pub taken_at : Stage → List ℕ → Reading → Reading
taken_at Name x r = record r { header = record r.header { name = x } }
taken_at Import x r = record r { header = record r.header { imports = r.header.imports ++ x ∷ [] } }
taken_at PairName x r = record r { pair = x }
taken_at Pair x r = record r {
  header = record r.header { keywords = r.header.keywords ++ pair_of (r.pair, x) ∷ [] };
  pair = [];
}
taken_at _ x r = r

-- the same at the stage of what has been read
abbrev pub taken_in : List ℕ → Reading → Reading
taken_in x r = taken_at r.stage x r

-- what has been read with one token more
abbrev pub advanced : List ℕ → Token → Reading → Reading
advanced text t r = if is_proper t.kind
    then taken_in (text_of text t) (record r { stage = after_token text r.stage t })
    else record r { stage = after_token text r.stage t }

-- the header that is told by what has been read and these tokens more, if it ends with one of them
abbrev pub header_from : List ℕ → Reading → List Token → Option Header
header_from text r [] = None
header_from text r (t ∷ ts) = if is_ended (advanced text t r).stage
    then Some (advanced text t r).header else header_from text (advanced text t r) ts

-- the header of the text, as a function: `HasHeader` holds of just its value, `HasNoHeader` where
-- it has none
abbrev pub header_in : List ℕ → Option Header
header_in text = header_from text empty_reading (tokens_under (λ _. is_in_force []) text)
