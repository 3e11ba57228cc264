-- Things that are numbered from 1 in the order in which they were made (this project's own).
use Rattle.std.specs.Prelude.{ℕ, suc, ◌==◌, if◌then◌else◌, List, [], ◌∷◌, length, Option, Some, None}

-- the thing of a number, among these, the newest first
abbrev pub numbered : {A : Type 0} → List A → ℕ → Option A
numbered [] n = None
numbered (x ∷ xs) n = if n == suc (length xs) then Some x else numbered xs n

-- the next number
abbrev pub next_number : {A : Type 0} → List A → ℕ
next_number xs = suc (length xs)

-- these, and then others that were made one after the other
abbrev pub grown : {A : Type 0} → List A → List A → List A
grown xs [] = xs
grown xs (y ∷ ys) = grown (y ∷ xs) ys
