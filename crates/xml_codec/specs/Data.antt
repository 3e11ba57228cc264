-- The body of a value, by the value's shape (after Isabelle's `XML.Encode`).
use Rattle.std.specs.Prelude.{ℕ, ℤ, pos, negsuc, ◌<ℤ◌, ◌+◌, ◌-◌, Bool, true, false, List, [], ◌∷◌, map, decimal, Option, Some, None}
use Rattle.std.specs.Fmt.{signed_decimal}
use Rattle.yxml.specs.declared.tree.Attribute.{Attribute}
use Rattle.yxml.specs.declared.tree.Tree.{Tree}
use Rattle.yxml.specs.declared.tree.Tree.TheVariants.{Elem, Text}

-- the smallest number of 19 digits
abbrev pub int_end : ℕ
int_end = 1000000000000000000

-- an integer of at most 18 digits (this project's own)
abbrev pub IsShort : ℤ → Type 0
IsShort n = (negsuc (int_end - 1) <ℤ n) × (n <ℤ pos int_end)

-- its decimal text
abbrev pub int_body : ℤ → List Tree
int_body n = Text (signed_decimal n) ∷ []

-- '1' or '0'
abbrev pub bool_body : Bool → List Tree
bool_body true = Text (49 ∷ []) ∷ []
bool_body false = Text (48 ∷ []) ∷ []

-- the text, if there is one
abbrev pub string_body : List ℕ → List Tree
string_body [] = []
string_body (b ∷ bs) = Text (b ∷ bs) ∷ []

-- an element `:` without attributes around a body
abbrev pub node : List Tree → Tree
node body = Elem (58 ∷ []) [] body

-- a node for each part
abbrev pub pair_body : List Tree → List Tree → List Tree
pair_body first second = node first ∷ node second ∷ []

-- a node for each item
abbrev pub list_body : List (List Tree) → List Tree
list_body items = map node items

-- empty, or a node
abbrev pub option_body : Option (List Tree) → List Tree
option_body None = []
option_body (Some item) = node item ∷ []

-- values with the keys `0`, `1`, .., counted from n
abbrev pub numbered_from : ℕ → List (List ℕ) → List Attribute
numbered_from n [] = []
numbered_from n (value ∷ values) =
    record { key = decimal n; value = value } ∷ numbered_from (n + 1) values

-- an element named by the variant's number, with numbered attributes, around its argument
abbrev pub variant_body : ℕ → List (List ℕ) → List Tree → List Tree
variant_body index values argument = Elem (decimal index) (numbered_from 0 values) argument ∷ []
