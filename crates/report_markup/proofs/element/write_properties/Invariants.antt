-- What is written, and the properties that are left, make up the attributes; where those that are
-- left are fit, all are.
use Rattle.std.proofs.Common.{◌≡◌, ◌++◌, string_bytes, drop, map}
use Rattle.std.specs.List.{flat_map, AllByRecursion}
use Rattle.yxml.specs.Normal.{IsAttribute}
use Rattle.yxml.specs.Spelling.{attribute_spelling}
use Rattle.report_markup.specs.Element.{property_attribute}
use Rattle.report_markup.proofs.element.write_properties.Given as goal

abbrev pub invariant-loop-property : goal.invariant-loop-property
invariant-loop-property l =
    (string_bytes l.out ++ flat_map attribute_spelling (map property_attribute (drop l.property-index l.properties))
    ≡ string_bytes l.initial.out ++ flat_map attribute_spelling (map property_attribute l.properties))
    × (AllByRecursion IsAttribute (map property_attribute (drop l.property-index l.properties))
    → AllByRecursion IsAttribute (map property_attribute l.properties))
