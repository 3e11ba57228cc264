-- The attributes that are left of a start tag.
use Rattle.std.specs.Prelude.{◌≢◌, ℕ, List, [], Option, Some, None}
use Rattle.std.specs.Borrow.{Bor}
use Rattle.std.specs.List.{slice_split}
use Rattle.yxml.specs.declared.tree.Attribute.{Attribute}
use Rattle.yxml.specs.Reading.{is_y, attributes_of}
use Rattle.message_values.specs.declared.attributes.LentAttribute.{LentAttribute}

-- an attribute that is lent
abbrev pub attribute : LentAttribute → Attribute
attribute a = record { key = a.key.now; value = a.value.now }

-- the attributes, or none
abbrev pub listed : Option (List Attribute) → List Attribute
listed (Some attributes) = attributes
listed None = []

-- the attributes of the pieces that are left, if any are
abbrev pub left : Option (Bor (List ℕ)) → List Attribute
left (Some text) = listed (attributes_of (slice_split is_y text.now))
left None = []

-- each piece is an attribute
abbrev pub AreAttributes : Option (Bor (List ℕ)) → Type 0
AreAttributes (Some text) = attributes_of (slice_split is_y text.now) ≢ None
AreAttributes None = Unit {0}
