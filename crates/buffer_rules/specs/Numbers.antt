-- Which commands keep their ids (Wenzel, ITP 2014; the rule is this project's own).
use Rattle.std.specs.Prelude.{◌≡◌, ℕ, suc, ◌-◌, ◌≤◌, if◌then◌else◌, List, ◌∷◌, ◌++◌, length, map, take, drop, reverse}
use Rattle.std.specs.List.{range_with_len}
use Rattle.doc_nodes.specs.Names.{equal}

-- a command: its id and its source
abbrev pub Command : Type 0
Command = ℕ × List ℕ

-- how many texts at the front are equal
abbrev pub equal_front : List (List ℕ) → List (List ℕ) → ℕ
equal_front (x ∷ xs) (y ∷ ys) = if equal x y then suc (equal_front xs ys) else 0
equal_front xs ys = 0

-- how many at the back are
abbrev pub equal_back : List (List ℕ) → List (List ℕ) → ℕ
equal_back xs ys = equal_front (reverse xs) (reverse ys)

-- what keeps its id of the commands before: so many at the front, and of the others so many at the
-- back
pub record Kept : Type 0 where
  pub front : ℕ
  pub back : ℕ

-- the longest front, and then the longest back of what is left
abbrev pub kept_runs : List (List ℕ) → List (List ℕ) → Kept
kept_runs before now =
    let front = equal_front before now in
    record { front = front; back = equal_back (drop front before) (drop front now) }

-- the ids of commands: those that are kept, and the next ones between them
abbrev pub with_kept : Kept → List ℕ → ℕ → ℕ → List ℕ
with_kept k ids count next = take k.front ids
    ++ range_with_len next (count - k.front - k.back) ++ drop (length ids - k.back) ids

-- the ids of the commands with these sources, when the next one is this
abbrev pub ids_of : List Command → List (List ℕ) → ℕ → List ℕ
ids_of before now next =
    with_kept (kept_runs (map (λ c. c.1) before) now) (map (λ c. c.0) before) (length now) next

-- how many of them are new
abbrev pub new_count : List Command → List (List ℕ) → ℕ
new_count before now =
    let k = kept_runs (map (λ c. c.1) before) now in
    length now - k.front - k.back

-- two lists are equal up to so many, and no further (this project's own)
pub record IsLongestFront (xs ys : List (List ℕ)) (n : ℕ) : Type 0 where
  pub within : (n ≤ length xs) × (n ≤ length ys)
  pub same : take n xs ≡ take n ys
  pub longest : (m : ℕ) → m ≤ length xs → m ≤ length ys → take m xs ≡ take m ys → m ≤ n

-- the same in words: the longest equal front, and of what is left the longest equal back, which is
-- the front of the lists turned round
pub record IsLongestKept (before now : List (List ℕ)) (k : Kept) : Type 0 where
  pub front : IsLongestFront before now k.front
  pub back : IsLongestFront (reverse (drop k.front before)) (reverse (drop k.front now)) k.back

-- the ids of so many commands: of the ids before, those of the front and of the back, and between
-- them the next ones (this project's own)
pub record IsNumbered (k : Kept) (before : List ℕ) (count next : ℕ) (ids : List ℕ) : Type 0 where
  pub counted : length ids ≡ count
  pub front : take k.front ids ≡ take k.front before
  pub new : take (count - k.front - k.back) (drop k.front ids)
      ≡ range_with_len next (count - k.front - k.back)
  pub back : drop (count - k.back) ids ≡ drop (length before - k.back) before
