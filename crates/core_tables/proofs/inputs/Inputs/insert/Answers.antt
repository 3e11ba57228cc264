use Rattle.std.proofs.Common.{rules}
use Rattle.core_tables.proofs.Sets.{changed}
use Rattle.core_tables.proofs.inputs.Inputs.insert.Goals as goal

pub returns-clause-has : goal.returns-clause-has
returns-clause-has c e = let is = changed _ _ _ _ c.in_ok-insert.ensures.updates.0 e in search (rules, is)
