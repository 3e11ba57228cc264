use Rattle.std.proofs.Common.{◌≡◌, drop}
use Rattle.std.specs.List.{list_any}
use Rattle.outer_syntax.specs.Words.{same}
use Rattle.nj_suggest.proofs.naming.is_alias.Given as goal

abbrev pub invariant-loop-alias : goal.invariant-loop-alias
invariant-loop-alias l = list_any (same l.name) (drop l.alias-index l.aliases) ≡ list_any (same l.name) l.aliases
