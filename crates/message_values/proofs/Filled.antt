-- No text among the marks of a text is empty.
use Rattle.std.proofs.Common.{◌≡◌, ◌≢◌, ℕ, ◌+◌, List, [], ◌∷◌, ◌++◌, length, Option, Some, None, subst}
use Rattle.std.specs.List.{slice_split}
use Rattle.yxml.specs.declared.tree.Attribute.{Attribute}
use Rattle.yxml.specs.Marks.{Mark, opening, closing, words}
use Rattle.yxml.specs.Reading.{is_x, is_y, said, tag_said, start_said, attributes_of, marks_said, marks_from, marks_in}

-- each text among the marks has a byte
abbrev AreFilled : List Mark → Type 0
AreFilled [] = Unit {0}
AreFilled (opening name attributes ∷ ms) = AreFilled ms
AreFilled (closing ∷ ms) = AreFilled ms
AreFilled (words text ∷ ms) = (text ≢ []) × AreFilled ms

start-filled : (at : ℕ) (name : List ℕ) (attributes : Option (List Attribute)) → AreFilled (marks_said (start_said at name attributes))
start-filled at name (Some attributes) = tt
start-filled at name None = tt

tag-filled : (at : ℕ) (pieces : List (List ℕ)) → AreFilled (marks_said (tag_said at pieces))
tag-filled at [] = tt
tag-filled at ([] ∷ []) = tt
tag-filled at ([] ∷ piece ∷ pieces) = tt
tag-filled at ((b ∷ bs) ∷ pieces) = start-filled at (b ∷ bs) (attributes_of pieces)

said-filled : (at : ℕ) (pieces : List (List ℕ)) → AreFilled (marks_said (said at pieces))
said-filled at [] = tt
said-filled at ([] ∷ []) = tt
said-filled at ((b ∷ bs) ∷ []) = (λ e. absurd (cc), tt)
said-filled at ([] ∷ piece ∷ pieces) = tag-filled at (piece ∷ pieces)
said-filled at ((b ∷ bs) ∷ piece ∷ pieces) = tt

both-filled : (xs ys : List Mark) → AreFilled xs → AreFilled ys → AreFilled (xs ++ ys)
both-filled [] ys h k = k
both-filled (opening name attributes ∷ xs) ys h k = both-filled xs ys h k
both-filled (closing ∷ xs) ys h k = both-filled xs ys h k
both-filled (words text ∷ xs) ys h k = (h.0, both-filled xs ys h.1 k)

chunks-filled : (at : ℕ) (chunks : List (List ℕ)) → AreFilled (marks_from at chunks)
chunks-filled at [] = tt
chunks-filled at (chunk ∷ chunks) =
    both-filled (marks_said (said at (slice_split is_y chunk))) (marks_from (at + length chunk + 1) chunks)
    (said-filled at (slice_split is_y chunk)) (chunks-filled (at + length chunk + 1) chunks)

pub first_filled : (text s : List ℕ) (ms : List Mark) → marks_in text ≡ words s ∷ ms → s ≢ []
first_filled text s ms e = (subst AreFilled e (chunks-filled 0 (slice_split is_x text))).0
