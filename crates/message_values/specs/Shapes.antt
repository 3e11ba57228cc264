-- Which value a body encodes, shape by shape (after Isabelle's `XML.Decode`).
use Rattle.std.specs.Prelude.{ℕ, ◌+◌, ◌^◌, Bool, true, false, ◌&&◌, nat_lt, bytes_eq, if◌then◌else◌, List, [], ◌∷◌, Option, Some, None, decimal, codes}
use Rattle.std.specs.Str.Parse.{digits_value}
use Rattle.yxml.specs.declared.tree.Attribute.{Attribute}
use Rattle.yxml.specs.declared.tree.Tree.{Tree}
use Rattle.yxml.specs.declared.tree.Tree.TheOpen.{Tree-F}
use Rattle.yxml.specs.declared.tree.Tree.TheViews.{out-Tree}
use Rattle.message_values.specs.declared.variant.Variant.{Variant}
use Rattle.message_values.specs.Each.{◌>>=◌, each}
use Rattle.message_values.specs.Numbers.{number_of}

-- what stands in an element `:` without attributes
abbrev pub node_layer : Tree-F Tree → Option (List Tree)
node_layer (Tree-F.Elem name [] body) = if bytes_eq name (codes ":") then Some body else None
node_layer (Tree-F.Elem name (a ∷ more) body) = None
node_layer (Tree-F.Text text) = None

-- what stands in a node
abbrev pub inner_body : Tree → Option (List Tree)
inner_body tree = node_layer (out-Tree tree)

-- the items' bodies: each child is a node
abbrev pub list_in : List Tree → Option (List (List Tree))
list_in = each inner_body

-- a list whose items have a shape
abbrev pub items_in : {A : Type 0} → (List Tree → Option A) → List Tree → Option (List A)
items_in shape body = list_in body >>= each shape

-- the two of a list, where there are just two
abbrev pub both : List (List Tree) → Option (List Tree × List Tree)
both (first ∷ second ∷ []) = Some (first, second)
both _ = None

-- the parts' bodies
abbrev pub pair_in : List Tree → Option (List Tree × List Tree)
pair_in body = list_in body >>= both

-- the one of a list, or none, where there is at most one
abbrev pub at_most_one : List (List Tree) → Option (Option (List Tree))
at_most_one [] = Some None
at_most_one (item ∷ []) = Some (Some item)
at_most_one _ = None

-- the item's body, if there is an item
abbrev pub option_in : List Tree → Option (Option (List Tree))
option_in body = list_in body >>= at_most_one

-- the item, where there is one, has a shape
abbrev pub optional : {A : Type 0} → (List Tree → Option A) → Option (List Tree) → Option (Option A)
optional shape None = Some None
optional shape (Some item) = shape item >>= λ value. Some (Some value)

-- an option whose item has a shape
abbrev pub optional_in : {A : Type 0} → (List Tree → Option A) → List Tree → Option (Option A)
optional_in shape body = option_in body >>= optional shape

-- a text that is not empty
abbrev pub text_layer : Tree-F Tree → Option (List ℕ)
text_layer (Tree-F.Text (b ∷ bs)) = Some (b ∷ bs)
text_layer _ = None

-- a text's bytes
abbrev pub string_in : List Tree → Option (List ℕ)
string_in [] = Some []
string_in (tree ∷ []) = text_layer (out-Tree tree)
string_in _ = None

-- a number from 0 on
abbrev pub number_in : List Tree → Option ℕ
number_in body = string_in body >>= number_of

-- `0` or `1`
abbrev pub truth_of : List ℕ → Option Bool
truth_of text = if bytes_eq text (codes "1") then Some true
    else if bytes_eq text (codes "0") then Some false else None

-- a truth value
abbrev pub bool_in : List Tree → Option Bool
bool_in body = string_in body >>= truth_of

-- the values of attributes that are numbered from n on
abbrev pub values_from : ℕ → List Attribute → Option (List (List ℕ))
values_from n [] = Some []
values_from n (a ∷ more) = if bytes_eq a.key (decimal n)
    then (values_from (n + 1) more >>= λ values. Some (a.value ∷ values)) else None

-- the element's name is the number's decimal, below 2^64
abbrev pub index_of : List ℕ → Option ℕ
index_of name = let index = digits_value 10 name in
    if nat_lt index (2 ^ 64) && bytes_eq (decimal index) name then Some index else None

-- the variant that an element is
abbrev pub variant_layer : Tree-F Tree → Option Variant
variant_layer (Tree-F.Elem name attributes body) = index_of name >>= λ index.
    values_from 0 attributes >>= λ values.
    Some (record { index = index; values = values; argument = body })
variant_layer (Tree-F.Text text) = None

-- a variant
abbrev pub variant_in : List Tree → Option Variant
variant_in (tree ∷ []) = variant_layer (out-Tree tree)
variant_in _ = None
