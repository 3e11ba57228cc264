-- The attributes that are left, and those of the values that are read, make up the attributes.
use Rattle.std.proofs.Common.{◌≡◌, ◌++◌, length, reverse}
use Rattle.xml_codec.specs.Data.{numbered_from}
use Rattle.xml_codec.proofs.variant.values_of.Given as goal

abbrev pub invariant-loop-attribute : goal.invariant-loop-attribute
invariant-loop-attribute l = l.initial.attributes ≡ l.attributes ++ numbered_from (length l.attributes) (reverse l.reversed.items)

abbrev pub decreases-loop-attribute : goal.decreases-loop-attribute
decreases-loop-attribute l = length l.attributes
