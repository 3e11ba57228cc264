-- Lists of entries, oldest first. The definitions of this crate are this project's own.
use Rattle.std.specs.Prelude.{◌≡◌, ℕ, ◌==◌, ◌⊎◌, List, [], ◌∷◌, ◌++◌}
use Rattle.std.specs.List.{filter}
use mathlib.Core.List.{IsPrefix}

module _ {E : Type 0} where
  -- the list as it was, or with one entry more
  abbrev pub Grows : List E → List E → Type 0
  Grows old new = (new ≡ old) ⊎ ((e : E) × (new ≡ old ++ e ∷ []))

  -- the entries of one caller, in order
  abbrev pub own : (E → ℕ) → ℕ → List E → List E
  own whose c log = filter (λ e. whose e == c) log

  -- xs is one of the two lists, and both are beginnings of it
  pub record IsLonger (one other xs : List E) : Type 0 where
    pub is_either : (xs ≡ one) ⊎ (xs ≡ other)
    pub first : IsPrefix one xs
    pub second : IsPrefix other xs
