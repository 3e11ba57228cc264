-- Variants in a body whose first tree is told, and the values of their attributes.
use Rattle.std.proofs.Common.{◌≡◌, ◌≢◌, ℕ, ◌+◌, length, true, false, bytes_eq, List, [], ◌∷◌, ◌++◌, length-append, Option, Some, None, decimal, refl, sym, ap, ◌∙◌, append_assoc, append-nil}
use Rattle.yxml.specs.declared.tree.Attribute.{Attribute}
use Rattle.yxml.specs.declared.tree.Tree.{Tree}
use Rattle.yxml.specs.declared.tree.Tree.TheVariants.{Elem}
use Rattle.xml_codec.specs.Data.{numbered_from}
use Rattle.message_values.specs.Each.{◌>>=◌}
use Rattle.message_values.specs.Shapes.{index_of, values_from, variant_layer, variant_in}
use Rattle.message_values.proofs.KnownFound.{variant_sound}
use Rattle.message_values.proofs.KnownLent.{behind, behind_first}
use Rattle.message_values.proofs.KnownSteps.{none_found, passed, failed}
use Rattle.message_values.proofs.KnownTrees.{elem_layer}

-- the values of attributes, of which some are read
pub values_next : (whole : Option (List (List ℕ))) (read : List (List ℕ)) (attributes more : List Attribute) (a : Attribute)
    → whole ≡ behind read (values_from (length read) attributes) → attributes ≡ a ∷ more → bytes_eq a.key (decimal (length read)) ≡ true
    → whole ≡ behind (read ++ a.value ∷ []) (values_from (length (read ++ a.value ∷ [])) more)
values_next whole read attributes more a e is same =
    e ∙ ap (λ list. behind read (values_from (length read) list)) is
    ∙ ap (behind read) (passed (bytes_eq a.key (decimal (length read))) (values_from (length read + 1) more >>= λ values. Some (a.value ∷ values)) None same)
    ∙ with_value (values_from (length read + 1) more)
    ∙ ap (λ n. behind (read ++ a.value ∷ []) (values_from n more)) (sym (length-append read (a.value ∷ []))) where
      with_value : (o : Option (List (List ℕ))) → behind read (o >>= λ values. Some (a.value ∷ values)) ≡ behind (read ++ a.value ∷ []) o
      with_value None = refl
      with_value (Some values) = ap Some (sym (append_assoc read (a.value ∷ []) values))

pub values_other : (whole : Option (List (List ℕ))) (read : List (List ℕ)) (attributes more : List Attribute) (a : Attribute)
    → whole ≡ behind read (values_from (length read) attributes) → attributes ≡ a ∷ more → bytes_eq a.key (decimal (length read)) ≡ false → None ≡ whole
values_other whole read attributes more a e is other = sym (e ∙ ap (λ list. behind read (values_from (length read) list)) is
    ∙ ap (behind read) (failed (bytes_eq a.key (decimal (length read))) (values_from (length read + 1) more >>= λ values. Some (a.value ∷ values)) None other))

pub values_all : (whole : Option (List (List ℕ))) (read : List (List ℕ)) (attributes : List Attribute)
    → whole ≡ behind read (values_from (length read) attributes) → attributes ≡ [] → Some read ≡ whole
values_all whole read attributes e none =
    sym (e ∙ ap (λ list. behind read (values_from (length read) list)) none ∙ ap Some (append-nil read))

pub values_started : (attributes : List Attribute) → values_from 0 attributes ≡ behind [] (values_from 0 attributes)
values_started attributes = go (values_from 0 attributes) where
  go : (o : Option (List (List ℕ))) → o ≡ behind [] o
  go None = refl
  go (Some values) = refl

-- a variant is one element
pub variant_without : (body : List Tree) → ((name : List ℕ) (attributes : List Attribute) (inside more : List Tree) → body ≢ Elem name attributes inside ∷ more)
    → variant_in body ≡ None
variant_without body never = none_found (variant_in body)
    (λ v e. never (decimal v.index) (numbered_from 0 v.values) v.argument [] (variant_sound body v e).same)

pub variant_with_more : (body more : List Tree) (first : Tree) → body ≡ first ∷ more → more ≢ [] → variant_in body ≡ None
variant_with_more body more first is some = none_found (variant_in body)
    (λ v e. some (behind_first first _ more [] (sym is ∙ (variant_sound body v e).same)))

module _ (body more argument : List Tree) (name : List ℕ) (attributes : List Attribute) (is : body ≡ Elem name attributes argument ∷ more) (none : more ≡ []) where
  variant_parts : variant_in body ≡ (index_of name >>= λ index. values_from 0 attributes >>= λ values. Some (record { index = index; values = values; argument = argument }))
  variant_parts = ap variant_in (is ∙ ap (λ ts. Elem name attributes argument ∷ ts) none) ∙ ap variant_layer (elem_layer name attributes argument)

  pub variant_unnumbered : index_of name ≡ None → variant_in body ≡ None
  variant_unnumbered e = variant_parts ∙ ap (λ o. o >>= λ index. values_from 0 attributes >>= λ values. Some (record { index = index; values = values; argument = argument })) e

  after_index : (index : ℕ) → index_of name ≡ Some index → variant_in body ≡ (values_from 0 attributes >>= λ values. Some (record { index = index; values = values; argument = argument }))
  after_index index e = variant_parts ∙ ap (λ o. o >>= λ index. values_from 0 attributes >>= λ values. Some (record { index = index; values = values; argument = argument })) e

  pub variant_valueless : (index : ℕ) → index_of name ≡ Some index → values_from 0 attributes ≡ None → variant_in body ≡ None
  variant_valueless index e v = after_index index e ∙ ap (λ o. o >>= λ values. Some (record { index = index; values = values; argument = argument })) v

  pub variant_there : (index : ℕ) (values : List (List ℕ)) → index_of name ≡ Some index → values_from 0 attributes ≡ Some values
      → variant_in body ≡ Some (record { index = index; values = values; argument = argument })
  variant_there index values e v = after_index index e ∙ ap (λ o. o >>= λ values. Some (record { index = index; values = values; argument = argument })) v
