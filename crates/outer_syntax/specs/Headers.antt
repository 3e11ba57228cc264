-- The header of a text (this project's own).
use Rattle.std.specs.Prelude.{◌≡◌, ℕ, List, [], map}
use Rattle.outer_syntax.specs.Contents.{content_of}
use Rattle.outer_syntax.specs.Tokens.{AreTokensUnder}
use Rattle.outer_syntax.specs.Words.{is_in_force}
use Rattle.outer_syntax.specs.Headings.{Heading, IsHeading, HasNoHeading, proper}
use Rattle.outer_syntax.specs.declared.kind.Kind.TheVariants.{String}
use Rattle.outer_syntax.specs.declared.token.Token.{Token}
use Rattle.outer_syntax.specs.declared.parts.Header.{Header}
use Rattle.outer_syntax.specs.declared.parts.KeywordPair.{KeywordPair}

-- a name and the content of the string after its `=`
abbrev pub pair_of : List ℕ × List ℕ → KeywordPair
pair_of p = record { name = p.0; target = content_of String p.1 }

-- what the words of a header tell
abbrev pub header_of : Heading → Header
header_of h = record { name = h.name; imports = h.imports; keywords = map pair_of h.pairs }

-- the tokens of the text where no aliases are in force
abbrev pub AreBaseTokens : List ℕ → List Token → Type 0
AreBaseTokens text tokens = AreTokensUnder (λ _. is_in_force []) text tokens

-- the text's proper tokens, without aliases, begin with this header
abbrev pub HasHeader : List ℕ → Header → Type 0
HasHeader text header = (tokens : List Token) × (h : Heading) × (n : ℕ)
    × AreBaseTokens text tokens × IsHeading text (proper tokens) h n × (header ≡ header_of h)

-- they begin with none
abbrev pub HasNoHeader : List ℕ → Type 0
HasNoHeader text =
    (tokens : List Token) × AreBaseTokens text tokens × HasNoHeading text (proper tokens)
