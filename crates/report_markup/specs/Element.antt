-- Reports in YXML.
use Rattle.std.specs.Prelude.{ℕ, List, [], ◌∷◌, map, codes, decimal}
use Rattle.yxml.specs.declared.tree.Attribute.{Attribute}
use Rattle.yxml.specs.declared.tree.Tree.{Tree}
use Rattle.yxml.specs.declared.tree.Tree.TheVariants.{Elem, Text}
use Rattle.pide_base.specs.declared.range.Range.{Range}
use Rattle.report_markup.specs.declared.property.Property.{Property}
use Rattle.report_markup.specs.declared.report.Report.{Report}
use Rattle.report_markup.specs.Words.{kind_word, key_word}

-- a property as an attribute
abbrev pub property_attribute : Property → Attribute
property_attribute p = record { key = key_word p.key; value = p.value }

-- a range as attributes (after the markup of Isabelle/PIDE)
abbrev pub with_offsets : Range → List Attribute → List Attribute
with_offsets range others = record { key = codes "offset"; value = decimal range.start }
    ∷ record { key = codes "end_offset"; value = decimal range.stop } ∷ others

-- a text as a body: empty for the empty text
abbrev pub text_body : List ℕ → List Tree
text_body [] = []
text_body (b ∷ bs) = Text (b ∷ bs) ∷ []

-- a report as an element: named by its kind, the range and then its properties as attributes, the
-- text as body (this project's own)
abbrev pub element : Report → Tree
element r = Elem (kind_word r.kind) (with_offsets r.range (map property_attribute r.properties))
    (text_body r.text)
