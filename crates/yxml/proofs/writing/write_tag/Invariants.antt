-- What is written, and the attributes that are left, make up the tag.
use Rattle.std.proofs.Common.{◌≡◌, ◌++◌, string_bytes, drop}
use Rattle.std.specs.List.{flat_map}
use Rattle.yxml.specs.Spelling.{attribute_spelling}
use Rattle.yxml.proofs.writing.write_tag.Given as goal

abbrev pub invariant-loop-attribute : goal.invariant-loop-attribute
invariant-loop-attribute l = string_bytes l.out ++ flat_map attribute_spelling (drop l.attribute-index l.attributes)
    ≡ string_bytes l.initial.out ++ flat_map attribute_spelling l.attributes
