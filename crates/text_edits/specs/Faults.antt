-- Why an edit cannot be made in a text.
use Rattle.std.specs.Prelude.{◌≡◌, ◌≢◌, ℕ, ◌+◌, ◌<◌, ◌≤◌, List, length, take, drop, slice_index}
use Rattle.text_edits.specs.declared.edit.Edit.{Edit}
use Rattle.text_edits.specs.declared.edit.Edit.TheVariants.{Insert, Remove}

-- an insert's start, or a remove's end, is above the text's length; the edit's start and that
-- length (this project's own)
abbrev pub IsOutOfRange : Edit → List ℕ → ℕ → ℕ → Type 0
IsOutOfRange (Insert place x) text start len =
    (length text < place) × (start ≡ place) × (len ≡ length text)
IsOutOfRange (Remove place x) text start len =
    (length text < place + length x) × (start ≡ place) × (len ≡ length text)

-- two lists are the same up to this number, and differ there (this project's own)
pub record DifferFirst (xs ys : List ℕ) (k : ℕ) : Type 0 where
  pub within : k < length xs
  pub same : take k xs ≡ take k ys
  pub differ : slice_index xs k ≢ slice_index ys k

-- the edit is a remove, the text reaches to its end, and this is the text's first place that has
-- another scalar than what is removed there (this project's own)
abbrev pub DiffersAt : Edit → List ℕ → ℕ → Type 0
DiffersAt (Insert start x) text at = ⊥
DiffersAt (Remove start x) text at = (start + length x ≤ length text)
    × (k : ℕ) × (at ≡ start + k) × DifferFirst (take (length x) (drop start text)) x k
