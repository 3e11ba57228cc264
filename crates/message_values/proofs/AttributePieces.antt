-- The pieces of a tag, each of which is an attribute or none is taken.
use Rattle.std.proofs.Common.{◌≡◌, ◌≢◌, ℕ, List, [], ◌∷◌, Bool, true, false, IsTrue, ◌↔◌, Option, Some, None, is_some, not, refl, sym, ap, ◌∙◌}
use Rattle.std.specs.Borrow.{Bor}
use Rattle.std.specs.List.{slice_split}
use Rattle.yxml.specs.declared.tree.Attribute.{Attribute}
use Rattle.yxml.specs.Cut.{IsCut}
use Rattle.yxml.specs.Reading.{is_y, with_attribute, attribute_of, attributes_of}
use Rattle.yxml.proofs.KnownPieces.{pieces_some}
use Rattle.message_values.specs.Attributes.{listed, left, AreAttributes}

with_none : (o : Option (List Attribute)) → with_attribute None o ≡ None
with_none (Some list) = refl
with_none None = refl

with_some : (a : Attribute) (o : Option (List Attribute)) → with_attribute (Some a) o ≢ None → o ≢ None
with_some a (Some list) some e = absurd (cc)
with_some a None some e = some refl

with_both : (a : Attribute) (o : Option (List Attribute)) → o ≢ None → with_attribute (Some a) o ≢ None
with_both a (Some list) some e = absurd (cc)
with_both a None some e = some refl

-- the attributes of a text whose first piece is told
split_attributes : (text before after : List ℕ) (o : Option Attribute) → IsCut is_y text before after → attribute_of before ≡ o
    → attributes_of (slice_split is_y text) ≡ with_attribute o (attributes_of (slice_split is_y after))
split_attributes text before after o cut e = ap attributes_of cut.pieces ∙ ap (λ p. with_attribute p (attributes_of (slice_split is_y after))) e

one_attribute : (text : List ℕ) (o : Option Attribute) → slice_split is_y text ≡ text ∷ [] → attribute_of text ≡ o
    → attributes_of (slice_split is_y text) ≡ with_attribute o (Some [])
one_attribute text o one e = ap attributes_of one ∙ ap (λ p. with_attribute p (Some [])) e

pub bad_first : (text before after : List ℕ) → IsCut is_y text before after → attribute_of before ≡ None → attributes_of (slice_split is_y text) ≡ None
bad_first text before after cut e = split_attributes text before after None cut e ∙ with_none (attributes_of (slice_split is_y after))

-- a good first piece makes no difference to whether all are good
pub good_first : (text before after : List ℕ) (a : Attribute) → IsCut is_y text before after → attribute_of before ≡ Some a
    → (attributes_of (slice_split is_y text) ≢ None) ↔ (attributes_of (slice_split is_y after) ≢ None)
good_first text before after a cut e =
    let is = split_attributes text before after (Some a) cut e in
    (λ some. with_some a _ (λ none. some (is ∙ none)), λ some none. with_both a _ some (sym is ∙ none))

pub good_last : (text : List ℕ) (a : Attribute) → slice_split is_y text ≡ text ∷ [] → attribute_of text ≡ Some a → attributes_of (slice_split is_y text) ≡ Some (a ∷ [])
good_last text a one e = one_attribute text (Some a) one e

pub bad_last : (text : List ℕ) → slice_split is_y text ≡ text ∷ [] → attribute_of text ≡ None → attributes_of (slice_split is_y text) ≡ None
bad_last text one e = one_attribute text None one e

-- what is listed of attributes that are there
pub listed_is : (o : Option (List Attribute)) → o ≢ None → o ≡ Some (listed o)
listed_is (Some list) some = refl
listed_is None some = absurd (some refl)

listed_with : (a : Attribute) (o : Option (List Attribute)) → o ≢ None → listed (with_attribute (Some a) o) ≡ a ∷ listed o
listed_with a (Some list) some = refl
listed_with a None some = absurd (some refl)

-- the first of the attributes, and the others
pub first_attribute : (text before after : List ℕ) (a : Attribute) → IsCut is_y text before after → attributes_of (slice_split is_y text) ≢ None → attribute_of before ≡ Some a
    → listed (attributes_of (slice_split is_y text)) ≡ a ∷ listed (attributes_of (slice_split is_y after))
first_attribute text before after a cut some e =
    ap listed (split_attributes text before after (Some a) cut e) ∙ listed_with a _ ((good_first text before after a cut e).0 some)

some_with : (o : Option Attribute) (p : Option (List Attribute)) → listed (with_attribute o p) ≡ [] → with_attribute o p ≢ None → ⊥
some_with (Some a) (Some list) e some = absurd (cc)
some_with (Some a) None e some = some refl
some_with None p e some = some (with_none p)

some_listed : (pieces : List (List ℕ)) → pieces ≢ [] → attributes_of pieces ≢ None → listed (attributes_of pieces) ≢ []
some_listed [] some good e = some refl
some_listed (piece ∷ pieces) some good e = some_with (attribute_of piece) (attributes_of pieces) e good

-- none is left just where no pieces are
pub none_left : (pieces : Option (Bor (List ℕ))) → AreAttributes pieces → (b : Bool) → is_some pieces ≡ not b → IsTrue b ↔ (left pieces ≡ [])
none_left None good true e = (λ yes. refl, λ none. refl)
none_left None good false e = absurd (cc)
none_left (Some text) good true e = absurd (cc)
none_left (Some text) good false e = (λ yes. absurd (cc), λ none. absurd (some_listed (slice_split is_y text.now) (pieces_some is_y text.now) good none))
