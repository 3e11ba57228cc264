-- What the chunks of a text say: their marks, and the first fault from the left.
use Rattle.std.specs.Prelude.{ℕ, ◌+◌, ◌==◌, Bool, ◌&&◌, List, [], ◌∷◌, ◌++◌, length, Option, Some, None, Result, Ok, Err, nat_lt, if◌then◌else◌}
use Rattle.std.specs.List.{slice_split, position_or_len, before_first, after_first}
use Rattle.yxml.specs.declared.tree.Attribute.{Attribute}
use Rattle.yxml.specs.Marks.{Mark, opening, closing, words, open_after}
use Rattle.yxml.specs.Normal.{x_byte, y_byte, equals_sign, most_nested}
use Rattle.yxml.specs.declared.fault.YxmlFault.{YxmlFault}
use Rattle.yxml.specs.declared.fault.YxmlFault.TheVariants.{Unbalanced, BadTag, BadAttribute, BadText, TooDeep}

-- X, which stands between chunks (The Isabelle System Manual, "YXML")
abbrev pub is_x : ℕ → Bool
is_x b = b == x_byte

-- Y, which begins a tag and each attribute (The Isabelle System Manual, "YXML")
abbrev pub is_y : ℕ → Bool
is_y b = b == y_byte

-- '=', which stands between a key and its value
abbrev pub is_equals : ℕ → Bool
is_equals b = b == equals_sign

-- an attribute is cut at the first '=', which something stands before
abbrev pub attribute_of : List ℕ → Option Attribute
attribute_of piece =
    let key = position_or_len is_equals piece in
    if nat_lt 0 key && nat_lt key (length piece)
    then Some (record { key = before_first is_equals piece; value = after_first is_equals piece })
    else None

-- one attribute before the others, where each of them is one
abbrev pub with_attribute : Option Attribute → Option (List Attribute) → Option (List Attribute)
with_attribute (Some a) (Some others) = Some (a ∷ others)
with_attribute (Some a) None = None
with_attribute None others = None

-- the attributes of these pieces, where each piece is one
abbrev pub attributes_of : List (List ℕ) → Option (List Attribute)
attributes_of [] = Some []
attributes_of (piece ∷ pieces) = with_attribute (attribute_of piece) (attributes_of pieces)

-- what a start tag says that has this name and these attributes, or a piece that is none
abbrev pub start_said : ℕ → List ℕ → Option (List Attribute) → Result (List Mark) YxmlFault
start_said at name (Some attributes) = Ok (opening name attributes ∷ [])
start_said at name None = Err (BadAttribute at)

-- what a chunk says that begins with Y, by the pieces behind that Y: `Y` alone closes an element
abbrev pub tag_said : ℕ → List (List ℕ) → Result (List Mark) YxmlFault
tag_said at [] = Ok []
tag_said at ([] ∷ []) = Ok (closing ∷ [])
tag_said at ([] ∷ piece ∷ pieces) = Err (BadTag at)
tag_said at ((b ∷ bs) ∷ attributes) = start_said at (b ∷ bs) (attributes_of attributes)

-- what the chunk at this place says, by its pieces between bytes Y; an empty chunk says nothing
abbrev pub said : ℕ → List (List ℕ) → Result (List Mark) YxmlFault
said at [] = Ok []
said at ([] ∷ []) = Ok []
said at ((b ∷ bs) ∷ []) = Ok (words (b ∷ bs) ∷ [])
said at ([] ∷ piece ∷ pieces) = tag_said at (piece ∷ pieces)
said at ((b ∷ bs) ∷ piece ∷ pieces) = Err (BadText at)

-- the marks, where there is no fault
abbrev pub marks_said : Result (List Mark) YxmlFault → List Mark
marks_said (Ok ms) = ms
marks_said (Err fault) = []

-- the fault of a chunk where so many elements are open
abbrev pub nesting_fault : ℕ → ℕ → Result (List Mark) YxmlFault → Option YxmlFault
nesting_fault depth at (Err fault) = Some fault
nesting_fault depth at (Ok []) = None
nesting_fault depth at (Ok (opening name attributes ∷ ms)) =
    if nat_lt depth most_nested then None else Some (TooDeep at)
nesting_fault depth at (Ok (closing ∷ ms)) =
    if depth == 0 then Some (Unbalanced at) else None
nesting_fault depth at (Ok (words text ∷ ms)) = None

-- the first fault, or else one that comes later
abbrev pub or_later : Option YxmlFault → Option YxmlFault → Option YxmlFault
or_later (Some fault) later = Some fault
or_later None later = later

-- the marks of the chunks, of which the first stands at this place
abbrev pub marks_from : ℕ → List (List ℕ) → List Mark
marks_from at [] = []
marks_from at (chunk ∷ chunks) =
    marks_said (said at (slice_split is_y chunk)) ++ marks_from (at + length chunk + 1) chunks

-- the first fault of the chunks, or of their end, where so many elements are open before them
abbrev pub first_fault : ℕ → ℕ → List (List ℕ) → ℕ → Option YxmlFault
first_fault depth at [] end = if depth == 0 then None else Some (Unbalanced end)
first_fault depth at (chunk ∷ chunks) end =
    let says = said at (slice_split is_y chunk) in
    or_later (nesting_fault depth at says)
    (first_fault (open_after depth (marks_said says)) (at + length chunk + 1) chunks end)

-- the marks of a text: its chunks stand between bytes X
abbrev pub marks_in : List ℕ → List Mark
marks_in text = marks_from 0 (slice_split is_x text)

-- the first fault of a text, if it has one
abbrev pub fault_in : List ℕ → Option YxmlFault
fault_in text = first_fault 0 0 (slice_split is_x text) (length text)
