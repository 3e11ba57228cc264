-- What strings and cartouches contain (after Isabelle's outer syntax).
use Rattle.std.specs.Prelude.{ℕ, zero, suc, ◌+◌, ◌-◌, ◌*◌, ◌==◌, ◌&&◌, Bool, false, if◌then◌else◌, List, [], ◌∷◌, length, take, drop, nat_le}
use Rattle.std.specs.Char.{is_ascii_digit}
use Rattle.outer_syntax.specs.Brackets.{begins}
use Rattle.outer_syntax.specs.declared.kind.Kind.{Kind}
use Rattle.outer_syntax.specs.declared.kind.Kind.TheVariants.{String, Cartouche}

-- the number that three decimal digits are
abbrev pub code_of : ℕ → ℕ → ℕ → ℕ
code_of a b c = 100 * (a - 48) + 10 * (b - 48) + (c - 48)

-- the text begins with three decimal digits of a number up to 127
abbrev pub begins_code : List ℕ → Bool
begins_code (a ∷ b ∷ c ∷ s) = is_ascii_digit a
    && (is_ascii_digit b && (is_ascii_digit c && nat_le (code_of a b c) 127))
begins_code _ = false

-- the number of the three decimal digits at the front
abbrev pub first_code : List ℕ → ℕ
first_code (a ∷ b ∷ c ∷ s) = code_of a b c
first_code _ = 0

-- what the first scalar stands for with the escape that it begins, and how many scalars that is:
-- `\"`, `\\` and `\ddd` are escapes, any other scalar stands for itself
abbrev pub first_of : ℕ → List ℕ → ℕ × ℕ
first_of c s = if c == 92 && begins (34 ∷ []) s then (34, 2)
    else (if c == 92 && begins (92 ∷ []) s then (92, 2)
    else (if c == 92 && begins_code s then (first_code s, 4) else (c, 1)))

-- the inside of a string with its escapes replaced; the first scalars belong to an escape before
abbrev pub replaced_from : ℕ → List ℕ → List ℕ
replaced_from skipped [] = []
replaced_from (suc k) (c ∷ s) = replaced_from k s
replaced_from zero (c ∷ s) = (first_of c s).0 ∷ replaced_from ((first_of c s).1 - 1) s

-- the content of a token: of a string what it stands for, of a cartouche its inside, of another its
-- scalars
abbrev pub content_of : Kind → List ℕ → List ℕ
content_of String s = replaced_from 0 (take (length s - 2) (drop 1 s))
content_of Cartouche s = take (length s - 15) (drop 7 s)
content_of _ s = s
