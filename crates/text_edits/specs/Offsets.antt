-- Where places are after edits and before them (after `Text.Edit` of Isabelle).
use Rattle.std.specs.Prelude.{ℕ, ◌+◌, ◌-◌, ◌<◌, if◌then◌else◌, nat_lt, max, List, [], ◌∷◌, length}
use Rattle.text_edits.specs.declared.edit.Edit.{Edit}
use Rattle.text_edits.specs.declared.edit.Edit.TheVariants.{Insert, Remove}

-- the place i after n scalars were put in at a start
abbrev pub later : ℕ → ℕ → ℕ → ℕ
later start n i = if nat_lt i start then i else i + n

-- the place i after n scalars were taken out at a start
abbrev pub earlier : ℕ → ℕ → ℕ → ℕ
earlier start n i = if nat_lt i start then i else max (i - n) start

-- where a place of the text before the edit is after it
abbrev pub convert : Edit → ℕ → ℕ
convert (Insert start x) i = later start (length x) i
convert (Remove start x) i = earlier start (length x) i

-- insert and remove exchanged: the edit that takes this one back
abbrev pub exchanged : Edit → Edit
exchanged (Insert start x) = Remove start x
exchanged (Remove start x) = Insert start x

-- where a place of the text after the edit was before it
abbrev pub revert : Edit → ℕ → ℕ
revert e i = convert (exchanged e) i

-- through edits made one after the other
abbrev pub convert_list : List Edit → ℕ → ℕ
convert_list [] i = i
convert_list (e ∷ es) i = convert_list es (convert e i)

-- back through them, the last one first
abbrev pub revert_list : List Edit → ℕ → ℕ
revert_list [] i = i
revert_list (e ∷ es) i = revert e (revert_list es i)

-- each number that converting through the edits gives on the way is below the limit
abbrev pub ConvertsBelow : ℕ → List Edit → ℕ → Type 0
ConvertsBelow limit [] i = Unit {0}
ConvertsBelow limit (e ∷ es) i = (convert e i < limit) × ConvertsBelow limit es (convert e i)

-- the same on the way back
abbrev pub RevertsBelow : ℕ → List Edit → ℕ → Type 0
RevertsBelow limit [] i = Unit {0}
RevertsBelow limit (e ∷ es) i = RevertsBelow limit es i × (revert e (revert_list es i) < limit)
