use Rattle.std.proofs.Common.{◌≡◌, drop}
use Rattle.exec_rules.specs.Keys.{same_lasts}
use Rattle.exec_assign.proofs.same.same_lasts.Given as goal

abbrev pub invariant-lasts : goal.invariant-lasts
invariant-lasts l = same_lasts (drop l.place l.one) (drop l.place l.other) ≡ same_lasts l.one l.other
