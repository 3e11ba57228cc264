use Rattle.std.proofs.Common.{◌≡◌, ◌++◌, length, map}
use Rattle.isar_rules.specs.Words.{spot_of}
use Rattle.command_shapes.proofs.header.spots.Given as goal

abbrev pub invariant-tokens : goal.invariant-tokens
invariant-tokens l = l.spots ++ map (spot_of l.source) l.rest ≡ map (spot_of l.source) l.fn.tokens

abbrev pub decreases-tokens : goal.decreases-tokens
decreases-tokens l = length l.rest
