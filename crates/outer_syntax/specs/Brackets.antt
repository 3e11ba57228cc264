-- Comments, strings and cartouches, and where they end (after Isabelle's outer syntax).
use Rattle.std.specs.Prelude.{◌≡◌, ℕ, zero, suc, ◌+◌, ◌-◌, ◌<◌, ◌&&◌, ◌||◌, Bool, true, false, if◌then◌else◌, List, [], ◌∷◌, ◌++◌, length, take, drop, nat_eq}
use Rattle.std.specs.List.{starts_with}
use Rattle.outer_syntax.specs.declared.bracket.Bracket.{Bracket}
use Rattle.outer_syntax.specs.declared.bracket.Bracket.TheVariants.{Comment, String, Cartouche}
use Rattle.outer_syntax.specs.declared.bracket.Mark.{Mark}
use Rattle.outer_syntax.specs.declared.bracket.Mark.TheVariants.{Open, Close, Other}

-- `(*`, `"`, `\<open>`
abbrev pub opening : Bracket → List ℕ
opening Comment = 40 ∷ 42 ∷ []
opening String = 34 ∷ []
opening Cartouche = 92 ∷ 60 ∷ 111 ∷ 112 ∷ 101 ∷ 110 ∷ 62 ∷ []

-- `*)`, `"`, `\<close>`
abbrev pub closing : Bracket → List ℕ
closing Comment = 42 ∷ 41 ∷ []
closing String = 34 ∷ []
closing Cartouche = 92 ∷ 60 ∷ 99 ∷ 108 ∷ 111 ∷ 115 ∷ 101 ∷ 62 ∷ []

-- the text begins with these scalars
abbrev pub begins : List ℕ → List ℕ → Bool
begins front text = starts_with nat_eq text front

-- the first piece of the text inside of a bracket, and how many scalars it has. In a string a `\`
-- and the scalar after it are one piece, so that `\"` and `\\` don't end it; strings don't nest
abbrev pub piece : Bracket → List ℕ → Mark × ℕ
piece Comment s = if begins (opening Comment) s then (Open, 2)
    else (if begins (closing Comment) s then (Close, 2) else (Other, 1))
piece String s = if begins (92 ∷ []) s then (Other, 2)
    else (if begins (closing String) s then (Close, 1) else (Other, 1))
piece Cartouche s = if begins (opening Cartouche) s then (Open, 7)
    else (if begins (closing Cartouche) s then (Close, 8) else (Other, 1))

-- the pieces of the text, from the left to its end, do this
abbrev pub Reads : Bracket → List ℕ → List Mark → Type 0
Reads b s [] = s ≡ []
Reads b s (m ∷ ms) = (0 < length s) × ((piece b s).0 ≡ m) × Reads b (drop (piece b s).1 s) ms

-- how many pieces open
abbrev pub opened : List Mark → ℕ
opened [] = 0
opened (Open ∷ ms) = opened ms + 1
opened (Close ∷ ms) = opened ms
opened (Other ∷ ms) = opened ms

-- how many pieces close
abbrev pub closed : List Mark → ℕ
closed [] = 0
closed (Open ∷ ms) = closed ms
closed (Close ∷ ms) = closed ms + 1
closed (Other ∷ ms) = closed ms

-- how many brackets are open after a piece
abbrev pub after : Mark → ℕ → ℕ
after Open depth = depth + 1
after Close depth = depth - 1
after Other depth = depth

-- these pieces close so many open brackets, the last of them at the end and not before
pub record Closes (depth : ℕ) (ms : List Mark) : Type 0 where
  pub all : depth + opened ms ≡ closed ms
  pub last : (k : ℕ) → k < length ms → closed (take k ms) < depth + opened (take k ms)

-- the text closes so many open brackets, the last of them at its end
abbrev pub ClosesText : Bracket → ℕ → List ℕ → Type 0
ClosesText b depth s = (ms : List Mark) × Reads b s ms × Closes depth ms

-- an opening, and the text up to its own closing
abbrev pub IsEnclosed : Bracket → List ℕ → Type 0
IsEnclosed b s = (inside : List ℕ) × (s ≡ opening b ++ inside) × ClosesText b 1 inside

-- the same as a test, where the first scalars are left out
abbrev pub closes : Bracket → ℕ → ℕ → List ℕ → Bool
closes b depth (suc k) [] = false
closes b depth (suc k) (c ∷ s) = closes b depth k s
closes b zero zero [] = true
closes b zero zero (c ∷ s) = false
closes b (suc d) zero [] = false
closes b (suc d) zero (c ∷ s) =
    closes b (after (piece b (c ∷ s)).0 (suc d)) ((piece b (c ∷ s)).1 - 1) s

-- an opening, and the text up to its own closing, as a test
abbrev pub is_enclosed : Bracket → List ℕ → Bool
is_enclosed b s = begins (opening b) s && closes b 1 0 (drop (length (opening b)) s)

-- a text that begins a comment, a string or a cartouche, as a test
abbrev pub is_opened : List ℕ → Bool
is_opened s = begins (opening Comment) s
    || (begins (opening String) s || begins (opening Cartouche) s)
