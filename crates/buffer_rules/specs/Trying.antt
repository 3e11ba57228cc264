-- Steps of which each may be refused.
use Rattle.std.specs.Prelude.{List, [], ◌∷◌, Result, Ok, Err}
use Rattle.message_values.specs.declared.refusal.Refusal.{Refusal}

infixl 10 ◌>>=◌
-- the next step, unless there was a refusal
abbrev pub ◌>>=◌ : {A B : Type 0} → Result A Refusal → (A → Result B Refusal) → Result B Refusal
(Ok value) >>= next = next value
(Err refusal) >>= next = Err refusal

-- one step for each of the list, or the first refusal
abbrev pub steps : {A X : Type 0} → (X → A → Result A Refusal) → List X → A → Result A Refusal
steps step [] state = Ok state
steps step (x ∷ xs) state = step x state >>= steps step xs
