-- Named symbols (after Isabelle's symbols, in ASCII).
use Rattle.std.specs.Prelude.{◌≡◌, ◌⊎◌, ℕ, ◌-◌, ◌&&◌, ◌==◌, Bool, false, if◌then◌else◌, List, [], ◌∷◌, ◌++◌, length, take, drop}
use Rattle.text_words.specs.Identifier.{IsIdentifier, is_identifier}

-- an identifier and `>`
abbrev pub IsClosedName : List ℕ → Type 0
IsClosedName s = (name : List ℕ) × IsIdentifier name × (s ≡ name ++ 62 ∷ [])

-- an identifier and `>`, or `^` and these
abbrev pub IsMarkedName : List ℕ → Type 0
IsMarkedName s = IsClosedName s ⊎ ((closed : List ℕ) × IsClosedName closed × (s ≡ 94 ∷ closed))

-- `\<name>` or `\<^name>`
abbrev pub IsNamedSymbol : List ℕ → Type 0
IsNamedSymbol s = (marked : List ℕ) × IsMarkedName marked × (s ≡ 92 ∷ 60 ∷ marked)

-- `>` alone, as a test
abbrev pub is_bracket : List ℕ → Bool
is_bracket (c ∷ []) = c == 62
is_bracket _ = false

-- an identifier and `>`, as a test
abbrev pub is_closed_name : List ℕ → Bool
is_closed_name s = is_identifier (take (length s - 1) s) && is_bracket (drop (length s - 1) s)

-- these with or without a `^` before them, as a test
abbrev pub is_marked_name : List ℕ → Bool
is_marked_name [] = false
is_marked_name (c ∷ s) = if c == 94 then is_closed_name s else is_closed_name (c ∷ s)

-- `\<name>` or `\<^name>`, as a test
abbrev pub is_named_symbol : List ℕ → Bool
is_named_symbol (a ∷ b ∷ s) = a == 92 && (b == 60 && is_marked_name s)
is_named_symbol _ = false
