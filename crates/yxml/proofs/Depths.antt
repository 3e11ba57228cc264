-- A text without fault opens no element too deep.
use Rattle.std.proofs.Common.{◌≡◌, ◌≢◌, ℕ, ◌<◌, ◌+◌, List, [], ◌∷◌, ◌++◌, length, Bool, true, false, Option, Some, None, Result, Ok, Err, refl, nat_lt, arith}
use Rattle.std.specs.Bool.{if◌then◌else◌, ◌==◌}
use Rattle.std.specs.List.{slice_split}
use Rattle.std.proofs.lemmas.Bool.{ltb-true, eqb-false}
use Rattle.yxml.specs.Marks.{Mark, opening, closing, words, open_after}
use Rattle.yxml.specs.declared.tree.Attribute.{Attribute}
use Rattle.yxml.specs.Normal.{most_nested}
use Rattle.yxml.proofs.KnownNesting.{IsWithin}
use Rattle.yxml.specs.declared.fault.YxmlFault.{YxmlFault}
use Rattle.yxml.specs.declared.fault.YxmlFault.TheVariants.{TooDeep, Unbalanced}
use Rattle.yxml.specs.Reading.{said, tag_said, start_said, attributes_of, nesting_fault, or_later, marks_said, marks_from, first_fault, is_y}

-- at most one mark
abbrev pub IsShort : Result (List Mark) YxmlFault → Type 0
IsShort (Ok []) = Unit {0}
IsShort (Ok (m ∷ [])) = Unit {0}
IsShort (Ok (m ∷ n ∷ ms)) = ⊥
IsShort (Err f) = Unit {0}

start-short : (at : ℕ) (name : List ℕ) (list : Option (List Attribute)) → IsShort (start_said at name list)
start-short at name (Some list) = tt
start-short at name None = tt

tag-short : (at : ℕ) (pieces : List (List ℕ)) → IsShort (tag_said at pieces)
tag-short at [] = tt
tag-short at ([] ∷ []) = tt
tag-short at ([] ∷ piece ∷ pieces) = tt
tag-short at ((b ∷ bs) ∷ pieces) = start-short at (b ∷ bs) (attributes_of pieces)

said-short : (at : ℕ) (pieces : List (List ℕ)) → IsShort (said at pieces)
said-short at [] = tt
said-short at ([] ∷ []) = tt
said-short at ((b ∷ bs) ∷ []) = tt
said-short at ([] ∷ piece ∷ pieces) = tag-short at (piece ∷ pieces)
said-short at ((b ∷ bs) ∷ piece ∷ pieces) = tt

pub or_later-None : (a b : Option YxmlFault) → or_later a b ≡ None → (a ≡ None) × (b ≡ None)
or_later-None None b e = (refl, e)
or_later-None (Some f) b e = absurd (cc)

opening-within : (d at : ℕ) (b : Bool) → nat_lt d most_nested ≡ b → (let o : Option YxmlFault = if b then None else Some (TooDeep at) in o ≡ None) → d < most_nested
opening-within d at true e h = ltb-true _ _ e
opening-within d at false e h = absurd (cc)

closing-within : (d at : ℕ) (b : Bool) → (d == 0) ≡ b → (let o : Option YxmlFault = if b then Some (Unbalanced at) else None in o ≡ None) → 0 < d
closing-within d at true e h = absurd (cc)
closing-within d at false e h = let some : d ≢ 0 = eqb-false d 0 e in omega arith

says-within : (d at : ℕ) (r : Result (List Mark) YxmlFault) (rest : List Mark) → IsShort r → nesting_fault d at r ≡ None
    → IsWithin (open_after d (marks_said r)) rest → IsWithin d (marks_said r ++ rest)
says-within d at (Err f) rest s e h = absurd (cc)
says-within d at (Ok []) rest s e h = h
says-within d at (Ok (opening name attributes ∷ [])) rest s e h = (opening-within d at (nat_lt d most_nested) refl e, h)
says-within d at (Ok (closing ∷ [])) rest s e h = (closing-within d at (d == 0) refl e, h)
says-within d at (Ok (words text ∷ [])) rest s e h = h
says-within d at (Ok (m ∷ n ∷ ms)) rest s e h = absurd s

pub chunks-within : (d at : ℕ) (chunks : List (List ℕ)) (end : ℕ) → first_fault d at chunks end ≡ None → IsWithin d (marks_from at chunks)
chunks-within d at [] end e = tt
chunks-within d at (chunk ∷ chunks) end e =
    let both = or_later-None (nesting_fault d at (said at (slice_split is_y chunk))) _ e in
    says-within d at (said at (slice_split is_y chunk)) (marks_from (at + length chunk + 1) chunks) (said-short at (slice_split is_y chunk)) both.0
    (chunks-within (open_after d (marks_said (said at (slice_split is_y chunk)))) (at + length chunk + 1) chunks end both.1)
