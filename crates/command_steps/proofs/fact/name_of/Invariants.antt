use Rattle.std.proofs.Common.{◌≡◌, ◌++◌, length}
use Rattle.std.specs.String.{string_bytes}
use Rattle.std.specs.Str.{encode_utf8_all}
use Rattle.command_steps.proofs.fact.name_of.Given as goal

abbrev pub invariant-scalars : goal.invariant-scalars
invariant-scalars l = string_bytes l.text ++ encode_utf8_all l.rest ≡ encode_utf8_all l.fn.word

abbrev pub decreases-scalars : goal.decreases-scalars
decreases-scalars l = length l.rest
