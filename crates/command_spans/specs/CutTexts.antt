-- A text under aliases, as one value (this project's own).
use Rattle.std.specs.Prelude.{◌≡◌, ℕ, zero, suc, ◌<◌, ◌++◌, List, [], ◌∷◌, map}
use Rattle.outer_syntax.specs.Lexing.{tokens_of}
use Rattle.outer_syntax.specs.declared.token.Token.{Token}
use Rattle.command_spans.specs.Cutting.{spans_in}
use Rattle.command_spans.specs.declared.span.Span.{Span}

-- a text, and the aliases under which it is lexed and cut
pub record CutText : Type 0 where
  pub text : List ℕ
  pub aliases : List (List ℕ)

-- its tokens
abbrev pub tokens_in : CutText → List Token
tokens_in cut = tokens_of cut.text cut.aliases

-- its spans
abbrev pub cut_spans : CutText → List Span
cut_spans cut = spans_in cut.text cut.aliases

-- what is kept beside a text: its tokens and its spans, and the aliases under which it has them
pub record Cuts : Type 0 where
  pub aliases : List (List ℕ)
  pub tokens : List Token
  pub spans : List Span

-- those of a text under aliases
abbrev pub cut : List ℕ → List (List ℕ) → Cuts
cut text aliases = record {
  aliases = aliases;
  tokens = tokens_of text aliases;
  spans = spans_in text aliases;
}

-- they are those of the text
abbrev pub AreCutsOf : List ℕ → Cuts → Type 0
AreCutsOf text cuts = cuts ≡ cut text cuts.aliases

-- a text, under the aliases of what is kept beside it
abbrev pub cut_text : List ℕ → Cuts → CutText
cut_text text cuts = record { text = text; aliases = cuts.aliases }

-- tokens that go one after the other from one place to another, and each has a scalar
abbrev pub Rising : ℕ → ℕ → List Token → Type 0
Rising from to [] = from ≡ to
Rising from to (t ∷ ts) =
    (t.range.start ≡ from) × (t.range.start < t.range.stop) × Rising t.range.stop to ts

-- the token boundaries of a text of so many scalars: where a token begins, and its end
abbrev pub boundaries : ℕ → List Token → List ℕ
boundaries len tokens = map (λ t. t.range.start) tokens ++ len ∷ []

-- the boundary at which the token of a number begins; the text's end after the last
abbrev pub boundary_at : ℕ → List Token → ℕ → ℕ
boundary_at len [] k = len
boundary_at len (t ∷ ts) zero = t.range.start
boundary_at len (t ∷ ts) (suc k) = boundary_at len ts k
