-- The texts of places, and places that tile a text (this project's own).
use Rattle.std.specs.Prelude.{◌≡◌, ℕ, ◌<◌, ◌≤◌, ◌-◌, List, [], ◌∷◌, length, take, drop}
use Rattle.std.specs.List.{flat_map}

-- the text from one place to another
abbrev pub text_between : List ℕ → ℕ → ℕ → List ℕ
text_between text start stop = take (stop - start) (drop start text)

-- the texts of these places, one after the other
abbrev pub joined : List ℕ → List (ℕ × ℕ) → List ℕ
joined text places = flat_map (λ p. text_between text p.0 p.1) places

-- pieces tile what lies between two places: each begins where the one before it ends, and none
-- is empty
abbrev pub Tiles : ℕ → ℕ → List (ℕ × ℕ) → Type 0
Tiles from to [] = from ≡ to
Tiles from to (p ∷ ps) = (p.0 ≡ from) × (p.0 < p.1) × Tiles p.1 to ps

-- pieces that tile a text join to it
pub record TilesJoin : Type 0 where
  pub rises : (from to : ℕ) (ps : List (ℕ × ℕ)) → Tiles from to ps → from ≤ to
  pub joins : (text : List ℕ) (from to : ℕ) (ps : List (ℕ × ℕ)) → Tiles from to ps →
      joined text ps ≡ text_between text from to
  pub whole : (text : List ℕ) (ps : List (ℕ × ℕ)) → Tiles 0 (length text) ps → joined text ps ≡ text
