use Rattle.std.proofs.Common.{◌≡◌, drop}
use Rattle.suggest_rules.specs.Names.{is_name_of}
use Rattle.nj_suggest.proofs.suggesting.is_hidden.Given as goal

abbrev pub invariant-loop-other : goal.invariant-loop-other
invariant-loop-other l = is_name_of (drop l.other-index l.chosen) l.local.name ≡ is_name_of l.chosen l.local.name
