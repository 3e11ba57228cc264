use Rattle.std.proofs.Common.{arith}
use Rattle.buffer_rules.specs.Nodes.{uncut_all}
use Rattle.buffer_laws.proofs.AllNodes.{rises, all_differ, ids_below}
use Rattle.buffer_laws.proofs.laws.numbers_law.Goals as goal

pub returns-clause-differ : goal.returns-clause-differ
returns-clause-differ c = λ tip sheets next sorted differ below.
    all_differ c.kept_law.ensures c.ids_law.ensures tip (uncut_all sheets) 0 sheets next next (omega arith) sorted differ below

pub returns-clause-below : goal.returns-clause-below
returns-clause-below c = λ tip sheets next below. ids_below c.kept_law.ensures c.ids_law.ensures tip (uncut_all sheets) 0 sheets next below

pub returns-clause-rises : goal.returns-clause-rises
returns-clause-rises c = λ tip sheets next. rises c.kept_law.ensures c.ids_law.ensures tip (uncut_all sheets) 0 sheets next
