use Rattle.std.proofs.Common.{rules}
use Rattle.core_tables.proofs.Sets.{changed, removed_is}
use Rattle.core_tables.proofs.inputs.Inputs.remove.Goals as goal

pub returns-clause-has : goal.returns-clause-has
returns-clause-has c e = let is = changed _ _ _ _ c.remove.ensures.updates.0 e in search (rules, is)

pub returns-clause-list : goal.returns-clause-list
returns-clause-list c = let is = removed_is c.self.inside.numbers.keys c.args.exec in search (rules, is)
