-- What edits keep of a text.
use Rattle.std.specs.Prelude.{ℕ, ◌+◌, ◌<◌, ◌≤◌, ◌⊎◌, List, [], ◌∷◌, length}
use Rattle.text_edits.specs.declared.edit.Edit.{Edit}
use Rattle.text_edits.specs.declared.edit.Edit.TheVariants.{Insert, Remove}
use Rattle.text_edits.specs.Offsets.{convert}

-- the edit keeps what stands at the place: an insert all, a remove what is outside of its text
-- (this project's own)
abbrev pub KeepsAt : Edit → ℕ → Type 0
KeepsAt (Insert start x) i = Unit {0}
KeepsAt (Remove start x) i = (i < start) ⊎ (start + length x ≤ i)

-- each of the edits keeps it, where the ones before have moved it (this project's own)
abbrev pub KeepsAllAt : List Edit → ℕ → Type 0
KeepsAllAt [] i = Unit {0}
KeepsAllAt (e ∷ es) i = KeepsAt e i × KeepsAllAt es (convert e i)
