use Rattle.buffer_rules.proofs.IdLaws.{ids_so}
use Rattle.buffer_rules.proofs.laws.ids_law.Goals as goal

pub returns : goal.returns
returns c before now next = ids_so before now next
