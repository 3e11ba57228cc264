-- The grammar of terms, each token with its depth (this project's own).
use Rattle.std.specs.Prelude.{ℕ, ◌+◌, if◌then◌else◌, List, [], ◌∷◌, ◌++◌, Option, Some, None, option_map}
use Rattle.std.specs.Str.{bytes_eq}
use Rattle.nj_formula.specs.declared.argument.Argument.{Argument}
use Rattle.nj_formula.specs.declared.argument.Argument.TheVariants.{Free, Bound, Apply}
use Rattle.nj_syntax.specs.declared.token.Token.{Token}
use Rattle.nj_syntax.specs.declared.token.Token.TheVariants.{Name, Open, Close, Comma}

-- a token, and how many operators, quantifiers and parentheses it stands under
abbrev pub Deep : Type 0
Deep = Token × ℕ

-- which of the bound names, innermost first, a name is
abbrev pub binder_place : List (List ℕ) → List ℕ → Option ℕ
binder_place [] x = None
binder_place (y ∷ bound) x = if bytes_eq y x then Some 0 else option_map (λ n. n + 1)
    (binder_place bound x)

-- a bound name, or a free one
abbrev pub named_at : List ℕ → Option ℕ → Argument
named_at x None = Free x
named_at x (Some n) = Bound n

-- a name by itself in the place of a term: what binds it, or a free name
abbrev pub named_term : List (List ℕ) → List ℕ → Argument
named_term bound x = named_at x (binder_place bound x)

-- terms with commas between them, under these bound names, at this depth; one term is a list of one
pub data AreArguments : List (List ℕ) → ℕ → List Deep → List Argument → Type 0 where
  name : {bound : List (List ℕ)} {d : ℕ} {x : List ℕ}
      → AreArguments bound d ((Name x, d) ∷ []) (named_term bound x ∷ [])
  apply : {bound : List (List ℕ)} {d : ℕ} {f : List ℕ}
      {inside : List Deep} {arguments : List Argument}
      → AreArguments bound (d + 1) inside arguments
      → AreArguments bound d ((Name f, d) ∷ (Open, d) ∷ inside ++ (Close, d) ∷ [])
      (Apply f arguments ∷ [])
  comma : {bound : List (List ℕ)} {d : ℕ} {first rest : List Deep}
      {t : Argument} {more : List Argument}
      → AreArguments bound d first (t ∷ []) → AreArguments bound d rest more
      → AreArguments bound d (first ++ (Comma, d) ∷ rest) (t ∷ more)
