use Rattle.std.proofs.Common.{arith}
use Rattle.buffer_rules.specs.Nodes.{uncut_all}
use Rattle.buffer_laws.proofs.OldCommands.{known}
use Rattle.buffer_laws.proofs.laws.known_law.Goals as goal

pub returns : goal.returns
returns c = λ tip sheets next. known c.kept_law.ensures tip (uncut_all sheets) next 0 sheets next (omega arith)
