-- What a name is held in, and which names are held without memory.
use Rattle.std.specs.Prelude.{ℕ, Bool, false, ◌==◌, ◌&&◌, ◌||◌, nat_lt, List, [], ◌∷◌, string_bytes}
use Rattle.yxml.specs.declared.xml_name.Chars.{Chars}
use Rattle.yxml.specs.declared.xml_name.Chars.TheVariants.{Fixed, Owned}

-- the name that is held
abbrev pub chars_of : Chars → List ℕ
chars_of (Fixed name) = name.now
chars_of (Owned name) = string_bytes name

-- a name of data: `:`, or one digit
abbrev pub is_inline : List ℕ → Bool
is_inline (c ∷ []) = c == 58 || (nat_lt 47 c && nat_lt c 58)
is_inline name = false
