use Rattle.std.proofs.Common.{◌≡◌, drop}
use Rattle.std.specs.List.{list_any}
use Rattle.outer_syntax.specs.Words.{same}
use Rattle.outer_syntax.proofs.word.is_alias.Given as goal

abbrev pub invariant-loop-alias : goal.invariant-loop-alias
invariant-loop-alias l = list_any (same l.word) (drop l.alias-index l.aliases) ≡ list_any (same l.word) l.aliases
