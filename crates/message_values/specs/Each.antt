-- What may be there, taken step by step.
use Rattle.std.specs.Prelude.{List, [], ◌∷◌, Option, Some, None}

infixl 10 ◌>>=◌
-- the next step, where there is something to take
abbrev pub ◌>>=◌ : {A B : Type 0} → Option A → (A → Option B) → Option B
(Some value) >>= next = next value
None >>= next = None

-- something for each of the list, where each has something
abbrev pub each : {A B : Type 0} → (A → Option B) → List A → Option (List B)
each f [] = Some []
each f (x ∷ xs) = f x >>= λ y. each f xs >>= λ ys. Some (y ∷ ys)
