use Rattle.buffer_rules.specs.Nodes.{uncut_all}
use Rattle.buffer_laws.proofs.AllNodes.{names}
use Rattle.buffer_laws.proofs.laws.names_law.Goals as goal

pub returns : goal.returns
returns c = λ tip sheets next. names tip (uncut_all sheets) 0 sheets next
