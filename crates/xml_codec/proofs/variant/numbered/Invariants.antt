-- The values that are left and the attributes that are made make up the attributes.
use Rattle.std.proofs.Common.{◌≡◌, ◌++◌, length, reverse}
use Rattle.xml_codec.specs.Data.{numbered_from}
use Rattle.xml_codec.proofs.variant.numbered.Given as goal

abbrev pub invariant-loop-value : goal.invariant-loop-value
invariant-loop-value l = numbered_from 0 l.values ++ reverse l.reversed.items ≡ numbered_from 0 l.initial.values

abbrev pub decreases-loop-value : goal.decreases-loop-value
decreases-loop-value l = length l.values
