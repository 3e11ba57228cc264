-- What a body encodes is found in it.
use Rattle.std.proofs.Common.{◌≡◌, ℕ, ◌<◌, ◌^◌, ◌+◌, Bool, true, false, bytes_eq, List, [], ◌∷◌, Option, Some, None, decimal, refl, ap, ◌∙◌}
use Rattle.yxml.specs.declared.tree.Tree.{Tree}
use Rattle.xml_codec.specs.Data.{node, string_body, bool_body, pair_body, list_body, option_body, numbered_from, variant_body}
use Rattle.message_values.specs.declared.variant.Variant.{Variant}
use Rattle.message_values.specs.Each.{◌>>=◌}
use Rattle.message_values.specs.Shapes.{node_layer, inner_body, list_in, both, pair_in, at_most_one, option_in, text_layer, string_in, truth_of, bool_in, values_from, variant_layer, variant_in}
use Rattle.message_values.proofs.KnownNumbers.{index_complete}
use Rattle.message_values.proofs.KnownSteps.{passed, each_complete}
use Rattle.message_values.proofs.KnownTrees.{elem_layer, text_layer_is, bytes_same}

pub node_complete : (body : List Tree) → inner_body (node body) ≡ Some body
node_complete body = ap node_layer (elem_layer (58 ∷ []) [] body)

pub list_complete : (items : List (List Tree)) → list_in (list_body items) ≡ Some items
list_complete = each_complete inner_body node node_complete

pub pair_complete : (first second : List Tree) → pair_in (pair_body first second) ≡ Some (first, second)
pair_complete first second = ap (λ o. o >>= both) (list_complete (first ∷ second ∷ []))

pub option_complete : (item : Option (List Tree)) → option_in (option_body item) ≡ Some item
option_complete None = refl
option_complete (Some item) = ap (λ o. o >>= at_most_one) (list_complete (item ∷ []))

pub string_complete : (text : List ℕ) → string_in (string_body text) ≡ Some text
string_complete [] = refl
string_complete (b ∷ bs) = ap text_layer (text_layer_is (b ∷ bs))

pub bool_complete : (b : Bool) → bool_in (bool_body b) ≡ Some b
bool_complete true = ap (λ o. o >>= truth_of) (string_complete (49 ∷ []))
bool_complete false = ap (λ o. o >>= truth_of) (string_complete (48 ∷ []))

values_complete : (n : ℕ) (values : List (List ℕ)) → values_from n (numbered_from n values) ≡ Some values
values_complete n [] = refl
values_complete n (value ∷ values) =
    passed (bytes_eq (decimal n) (decimal n)) _ None (bytes_same (decimal n) (decimal n) refl)
    ∙ ap (λ o. o >>= λ others. Some (value ∷ others)) (values_complete (n + 1) values)

pub variant_complete : (v : Variant) → v.index < 2 ^ 64 → variant_in (variant_body v.index v.values v.argument) ≡ Some v
variant_complete v small =
    ap variant_layer (elem_layer (decimal v.index) (numbered_from 0 v.values) v.argument)
    ∙ ap (λ o. o >>= λ index. values_from 0 (numbered_from 0 v.values) >>= λ values. Some (record { index = index; values = values; argument = v.argument })) (index_complete v.index small)
    ∙ ap (λ o. o >>= λ values. Some (record { index = v.index; values = values; argument = v.argument })) (values_complete 0 v.values)
