-- A text of `by` and lexemes is one command by itself.
use Rattle.std.proofs.Common.{◌≡◌, ℕ, ◌+◌, Bool, true, false, cond, List, [], ◌∷◌, ◌++◌, length, codes, refl, ap, ◌∙◌}
use Rattle.std.specs.Prelude.{⊤}
use Rattle.std.specs.List.{AllByRecursion}
use Rattle.text_words.proofs.KnownIdentifiers.{identifier-tested}
use Rattle.outer_syntax.specs.Kinds.{is_proper, is_command}
use Rattle.outer_syntax.specs.Words.{is_in_force, is_minor_keyword, kind_of}
use Rattle.outer_syntax.specs.declared.kind.Kind.TheVariants as kind
use Rattle.soundness_laws.specs.Lexemes.{Lexeme, word, space, opening, closing, quoted, scalars, text_of, row_of, EndsSpace, Fitting, tokens_of}
use Rattle.soundness_laws.proofs.LexemeTokens.{lexemes_are}
use Rattle.soundness_laws.specs.Insertion.{is_error, EndsWell, IsCommandText}

-- the lexeme is no command and no minor keyword
abbrev pub IsQuiet : (List ℕ → Bool) → Lexeme → Type 0
IsQuiet names (word x) = (names x ≡ false) × (is_minor_keyword x ≡ false)
IsQuiet names _ = ⊤

-- the last lexeme is no space
abbrev pub IsSolid : Lexeme → Type 0
IsSolid space = ⊥
IsSolid _ = ⊤

abbrev pub EndsSolid : List Lexeme → Type 0
EndsSolid [] = ⊥
EndsSolid (l ∷ []) = IsSolid l
EndsSolid (l ∷ k ∷ ls) = EndsSolid (k ∷ ls)

module _ (names : List ℕ → Bool) where
  quiet_kind : (l : Lexeme) → IsQuiet names l → is_command (kind_of names (row_of l) (scalars l)) ≡ false
  quiet_kind (word x) quiet = ap (λ b. is_command (cond b kind.Command (cond (is_minor_keyword x) kind.Keyword kind.Ident))) quiet.0 ∙ either (is_minor_keyword x)
    where
      either : (b : Bool) → is_command (cond b kind.Keyword kind.Ident) ≡ false
      either true = refl
      either false = refl
  quiet_kind space quiet = refl
  quiet_kind opening quiet = refl
  quiet_kind closing quiet = refl
  quiet_kind (quoted u) quiet = refl

  solid_kind : (l : Lexeme) → IsSolid l → (is_proper (kind_of names (row_of l) (scalars l)) ≡ true) × (is_error (kind_of names (row_of l) (scalars l)) ≡ false)
  solid_kind (word x) solid = either (names x) (is_minor_keyword x)
    where
      either : (a b : Bool) → (is_proper (cond a kind.Command (cond b kind.Keyword kind.Ident)) ≡ true) × (is_error (cond a kind.Command (cond b kind.Keyword kind.Ident)) ≡ false)
      either true b = (refl, refl)
      either false true = (refl, refl)
      either false false = (refl, refl)
  solid_kind space solid = absurd solid
  solid_kind opening solid = (refl, refl)
  solid_kind closing solid = (refl, refl)
  solid_kind (quoted u) solid = (refl, refl)

  no_command : (place : ℕ) (ls : List Lexeme) → AllByRecursion (IsQuiet names) ls → AllByRecursion (λ t. is_command t.kind ≡ false) (tokens_of names place ls)
  no_command place [] quiet = tt
  no_command place (l ∷ ls) quiet = (quiet_kind l quiet.0, no_command (place + length (scalars l)) ls quiet.1)

  ends_well : (place : ℕ) (ls : List Lexeme) → EndsSolid ls → EndsWell (tokens_of names place ls)
  ends_well place [] solid = absurd solid
  ends_well place (l ∷ []) solid = solid_kind l solid
  ends_well place (l ∷ k ∷ ls) solid = ends_well (place + length (scalars l)) (k ∷ ls) solid

-- `by` and a space before lexemes
abbrev pub by_lexemes : List Lexeme → List Lexeme
by_lexemes ls = word (codes "by") ∷ space ∷ ls

solid_behind : (ls : List Lexeme) → EndsSolid ls → EndsSolid (by_lexemes ls)
solid_behind [] solid = absurd solid
solid_behind (l ∷ ls) solid = solid

pub by_fitting : (ls : List Lexeme) → EndsSpace (text_of ls ++ []) → Fitting ls [] → Fitting (by_lexemes ls) []
by_fitting ls ink fitting = ((identifier-tested (codes "by") refl, (refl, refl)), (ink, fitting))

pub by_command : (names : List (List ℕ)) (ls : List Lexeme) → EndsSpace (text_of ls ++ []) → Fitting ls [] → AllByRecursion (IsQuiet (is_in_force names)) ls → EndsSolid ls
    → IsCommandText names (text_of (by_lexemes ls))
by_command names ls ink fitting quiet solid = record {
  word = record { kind = kind.Command; range = record { start = 0; stop = 2 } };
  more = tokens_of (is_in_force names) 2 (space ∷ ls);
  tokens_are = lexemes_are (is_in_force names) (by_lexemes ls) (by_fitting ls ink fitting);
  begins = refl;
  no_other = (refl, no_command (is_in_force names) 3 ls quiet);
  ends = ends_well (is_in_force names) 0 (by_lexemes ls) (solid_behind ls solid);
}
