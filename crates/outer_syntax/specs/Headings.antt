-- The header of a text, read off its proper tokens (this project's own).
use Rattle.std.specs.Prelude.{◌≡◌, ℕ, ◌-◌, ◌≤◌, Bool, if◌then◌else◌, nat_le, List, [], ◌∷◌, ◌++◌, length, take, Option, None, Some, MatchOption, map, filter, codes, slice_get}
use Rattle.std.specs.List.{flat_map}
use Rattle.outer_syntax.specs.Kinds.{is_proper}
use Rattle.outer_syntax.specs.Words.{is_in_force}
use Rattle.outer_syntax.specs.Tokens.{text_of, AreTokensUnder}
use Rattle.outer_syntax.specs.declared.kind.Kind.{Kind}
use Rattle.outer_syntax.specs.declared.kind.Kind.TheVariants.{String, Command, Keyword, Ident, Sym}
use Rattle.outer_syntax.specs.declared.token.Token.{Token}

-- a header: the theory's name, its imports, and its keyword pairs, each with its string as written
pub record Heading : Type 0 where
  pub name : List ℕ
  pub imports : List (List ℕ)
  pub pairs : List (List ℕ × List ℕ)

-- a word of a text: a kind and its scalars
abbrev pub Word : Type 0
Word = Kind × List ℕ

-- `imports` and the names, or nothing
abbrev pub import_words : List (List ℕ) → List Word
import_words [] = []
import_words (name ∷ names) = (Keyword, codes "imports") ∷ map (λ n. (Ident, n)) (name ∷ names)

-- NAME `=` STRING for each pair
abbrev pub flat_pairs : List (List ℕ × List ℕ) → List Word
flat_pairs pairs = flat_map (λ p. (Ident, p.0) ∷ (Sym, codes "=") ∷ (String, p.1) ∷ []) pairs

-- `keywords` and the pairs, or nothing
abbrev pub pair_words : List (List ℕ × List ℕ) → List Word
pair_words [] = []
pair_words (pair ∷ pairs) = (Keyword, codes "keywords") ∷ flat_pairs (pair ∷ pairs)

-- `theory` NAME [`imports` NAME..] [`keywords` (NAME `=` STRING)..] `begin`
abbrev pub words_of : Heading → List Word
words_of h = (Command, codes "theory") ∷ (Ident, h.name)
    ∷ import_words h.imports ++ pair_words h.pairs ++ (Keyword, codes "begin") ∷ []

-- the kinds and the scalars of tokens
abbrev pub words : List ℕ → List Token → List Word
words text tokens = map (λ t. (t.kind, text_of text t)) tokens

-- the first n of these tokens are the words of the header
pub record IsHeading (text : List ℕ) (tokens : List Token) (h : Heading) (n : ℕ) : Type 0 where
  pub within : n ≤ length tokens
  pub spelled : words text (take n tokens) ≡ words_of h

-- the proper ones of the tokens
abbrev pub proper : List Token → List Token
proper tokens = filter (λ t. is_proper t.kind) tokens

-- the proper tokens begin with a header, and the last token of it ends at the place
abbrev pub EndsHeading : List ℕ → List Token → ℕ → Type 0
EndsHeading text tokens stop = (h : Heading) × (n : ℕ) × (last : Token)
    × IsHeading text tokens h n × (slice_get tokens (n - 1) ≡ Some last) × (last.range.stop ≡ stop)

-- the tokens begin with no header
abbrev pub HasNoHeading : List ℕ → List Token → Type 0
HasNoHeading text tokens = (h : Heading) (n : ℕ) → IsHeading text tokens h n → ⊥

-- where the header ends, or none where the proper tokens don't begin with one
abbrev pub IsHeadingEnd : List ℕ → List Token → Option ℕ → Type 0
IsHeadingEnd text tokens found =
    MatchOption found (HasNoHeading text tokens) (EndsHeading text tokens)

-- the aliases in force at a place: all from the header's end on, none before it or without a header
abbrev pub aliases_at : Option ℕ → List (List ℕ) → ℕ → List (List ℕ)
aliases_at None aliases place = []
aliases_at (Some end) aliases place = if nat_le end place then aliases else []

-- the command names at a place: the language's own and the aliases in force there
abbrev pub names_at : Option ℕ → List (List ℕ) → ℕ → List ℕ → Bool
names_at end aliases place = is_in_force (aliases_at end aliases place)

-- the tokens of the text: the header is read under the language's own names, and the aliases are
-- commands after it
abbrev pub AreTokens : List ℕ → List (List ℕ) → List Token → Type 0
AreTokens text aliases tokens = (base : List Token) × (end : Option ℕ)
    × AreTokensUnder (names_at None []) text base
    × IsHeadingEnd text (proper base) end × AreTokensUnder (names_at end aliases) text tokens
