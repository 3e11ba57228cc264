-- Bytes that mark up, and what stands between them.
use Rattle.std.specs.Prelude.{◌≡◌, ℕ, List, [], ◌∷◌, ◌++◌}
use Rattle.yxml.specs.Normal.{x_byte, y_byte}

-- nothing, or what begins with the byte
abbrev pub Begins : ℕ → List ℕ → Type 0
Begins byte [] = Unit {0}
Begins byte (b ∷ bs) = b ≡ byte

-- X Y tag X, a text, X Y X: an element around a text (The Isabelle System Manual, "YXML")
abbrev pub element_bytes : List ℕ → List ℕ → List ℕ
element_bytes tag text =
    x_byte ∷ y_byte ∷ (tag ++ x_byte ∷ (text ++ x_byte ∷ y_byte ∷ x_byte ∷ []))

-- an element `:` around something
abbrev pub node_bytes : List ℕ → List ℕ
node_bytes inside = element_bytes (58 ∷ []) inside

-- a node around a node and another node
abbrev pub pair_bytes : List ℕ → List ℕ → List ℕ
pair_bytes first second = node_bytes (node_bytes first ++ node_bytes second)

-- no element begins there: the text is at its end, or an element ends
abbrev pub IsStop : List ℕ → Type 0
IsStop (a ∷ b ∷ c ∷ more) = c ≡ x_byte
IsStop _ = Unit {0}
