-- A command that is put in behind another (after Isabelle's command spans; this project's own).
use Rattle.std.specs.Prelude.{◌≡◌, ℕ, Bool, true, false, List, [], ◌∷◌, map}
use Rattle.std.specs.List.{AllByRecursion}
use Rattle.outer_syntax.specs.Kinds.{is_proper, is_command}
use Rattle.outer_syntax.specs.Lexing.{tokens_under, tokens_of}
use Rattle.outer_syntax.specs.Words.{is_in_force}
use Rattle.outer_syntax.specs.declared.kind.Kind.{Kind}
use Rattle.outer_syntax.specs.declared.kind.Kind.TheVariants.{Error}
use Rattle.outer_syntax.specs.declared.token.Token.{Token}
use Rattle.buffer_rules.specs.Cuts.{command_ranges, source}

-- a token that opens and doesn't end
abbrev pub is_error : Kind → Bool
is_error Error = true
is_error _ = false

-- no token that ends at the place is an error
abbrev pub IsUnbroken : List ℕ → List (List ℕ) → ℕ → Type 0
IsUnbroken text names place = AllByRecursion
    (λ t. t.range.stop ≡ place → is_error t.kind ≡ false) (tokens_of text names)

-- the last of these tokens is proper, and no error
abbrev pub EndsWell : List Token → Type 0
EndsWell [] = ⊥
EndsWell (t ∷ []) = (is_proper t.kind ≡ true) × (is_error t.kind ≡ false)
EndsWell (t ∷ u ∷ ts) = EndsWell (u ∷ ts)

-- the text is one command where these names are commands beside the language's own
pub record IsCommandText (names : List (List ℕ)) (text : List ℕ) : Type 0 where
  pub word : Token
  pub more : List Token
  pub tokens_are : tokens_under (λ _. is_in_force names) text ≡ word ∷ more
  pub begins : is_command word.kind ≡ true
  pub no_other : AllByRecursion (λ t. is_command t.kind ≡ false) more
  pub ends : EndsWell (word ∷ more)

-- the sources of the commands of a text, in their order
abbrev pub sources_in : List ℕ → List (List ℕ) → List (List ℕ)
sources_in text names = map (source text) (command_ranges text names)
