-- Finite sets of statements, as lists in which order and repetition do not matter.
use Rattle.std.specs.Prelude.{◌≡◌, ◌≢◌, ◌↔◌, ◌⊎◌, ⊤, ℕ, false, List, [], ◌∷◌}
use Rattle.nj_formula.specs.Statement.{Statement}
use Rattle.nj_formula.specs.Free.{is_free}

-- what stands in the list
abbrev pub members : List Statement → Statement → Type 0
members [] f = ⊥
members (g ∷ s) f = (g ≡ f) ⊎ members s f

infixl 60 ◌∪◌
-- the members of either
abbrev pub ◌∪◌ : (Statement → Type 0) → (Statement → Type 0) → Statement → Type 0
(P ∪ Q) f = P f ⊎ Q f

infixl 60 ◌∖◌
-- without the statement, whether it was there or not
abbrev pub ◌∖◌ : (Statement → Type 0) → Statement → Statement → Type 0
(P ∖ a) f = P f × (f ≢ a)

-- no statement stands in the list twice
abbrev pub Once : List Statement → Type 0
Once [] = ⊤
Once (f ∷ s) = (members s f → ⊥) × Once s

-- the list has the members of P, and no others
abbrev pub Lists : List Statement → (Statement → Type 0) → Type 0
Lists s P = (f : Statement) → members s f ↔ P f

-- the name is free in no member
abbrev pub IsFreshIn : List ℕ → (Statement → Type 0) → Type 0
IsFreshIn x P = (f : Statement) → P f → is_free x f ≡ false
