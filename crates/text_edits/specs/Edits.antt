-- What an edit does to a text, a list of scalars (after `Text.Edit` of Isabelle).
use Rattle.std.specs.Prelude.{◌≡◌, ℕ, List, [], ◌∷◌, ◌++◌, length}
use Rattle.text_edits.specs.declared.edit.Edit.{Edit}
use Rattle.text_edits.specs.declared.edit.Edit.TheVariants.{Insert, Remove}

-- x put in at a start turns `p q` into `p x q`, where p has so many scalars
abbrev pub PutsIn : ℕ → List ℕ → List ℕ → List ℕ → Type 0
PutsIn start x shorter longer = (p : List ℕ) × (q : List ℕ)
    × (length p ≡ start) × (shorter ≡ p ++ q) × (longer ≡ p ++ x ++ q)

-- an edit turns one text into another: an insert puts its text in, a remove takes it out
abbrev pub Applies : Edit → List ℕ → List ℕ → Type 0
Applies (Insert start x) before after = PutsIn start x before after
Applies (Remove start x) before after = PutsIn start x after before

-- edits made one after the other
abbrev pub AppliesList : List Edit → List ℕ → List ℕ → Type 0
AppliesList [] before after = after ≡ before
AppliesList (e ∷ es) before after =
    (between : List ℕ) × Applies e before between × AppliesList es between after

-- the edit is an insert
abbrev pub IsInsert : Edit → Type 0
IsInsert (Insert start x) = Unit {0}
IsInsert (Remove start x) = ⊥
