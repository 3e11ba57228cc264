-- The token with which a text begins (this project's own; a name as an identifier of Isabelle's
-- outer syntax).
use Rattle.std.specs.Prelude.{ℕ, ◌==◌, ◌&&◌, if◌then◌else◌, Bool, false, List, [], ◌∷◌, take, Option, Some, None, option_map}
use Rattle.std.specs.List.{prefix_len}
use Rattle.std.specs.Char.{is_ascii_alphabetic}
use Rattle.text_words.specs.Identifier.{is_identifier_part}
use Rattle.nj_syntax.specs.declared.token.Token.{Token}
use Rattle.nj_syntax.specs.declared.token.Token.TheVariants.{Name, Not, And, Or, Implies, Open, Close, Comma, Dot}

-- a sign of one scalar
abbrev pub sign : ℕ → Option Token
sign c =
    if c == 126 then Some Not else
    (if c == 38 then Some And else
    (if c == 124 then Some Or else
    (if c == 40 then Some Open else
    (if c == 41 then Some Close else
    (if c == 44 then Some Comma else
    (if c == 46 then Some Dot else None))))))

-- the rest of an arrow `-->` after its first `-`
abbrev pub ends_arrow : List ℕ → Bool
ends_arrow (d ∷ e ∷ text) = d == 45 && e == 62
ends_arrow _ = false

-- the sign at the front of the text, and how many scalars it has
abbrev pub front_sign : List ℕ → Option (Token × ℕ)
front_sign [] = None
front_sign (c ∷ text) =
    if c == 45 && ends_arrow text then Some (Implies, 3) else option_map (λ t. (t, 1)) (sign c)

-- how many scalars the identifier at the front has: a letter, and all that an identifier goes on
-- with
abbrev pub front_name : List ℕ → Option ℕ
front_name [] = None
front_name (c ∷ text) =
    if is_ascii_alphabetic c then Some (prefix_len is_identifier_part (c ∷ text)) else None

-- the name of that length, or the sign where there is none
abbrev pub name_or_sign : List ℕ → Option ℕ → Option (Token × ℕ)
name_or_sign text (Some n) = Some (Name (take n text), n)
name_or_sign text None = front_sign text

-- the token at the front of the text, the longest one, and how many scalars it has
abbrev pub first_token : List ℕ → Option (Token × ℕ)
first_token text = name_or_sign text (front_name text)
