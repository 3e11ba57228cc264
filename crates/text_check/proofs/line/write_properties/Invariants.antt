-- What is written, and the properties that are left, make up the text.
use Rattle.std.proofs.Common.{◌≡◌, ◌++◌, string_bytes, drop}
use Rattle.std.specs.List.{flat_map}
use Rattle.text_check.specs.Lines.{property_text}
use Rattle.text_check.proofs.line.write_properties.Given as goal

abbrev pub invariant-loop-property : goal.invariant-loop-property
invariant-loop-property l = string_bytes l.out ++ flat_map property_text (drop l.property-index l.properties)
    ≡ string_bytes l.initial.out ++ flat_map property_text l.properties
