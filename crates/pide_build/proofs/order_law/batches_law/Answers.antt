use Rattle.pide_build.proofs.Joined.{before, joins}
use Rattle.pide_build.proofs.order_law.batches_law.Goals as goal

pub returns-clause-join : goal.returns-clause-join
returns-clause-join c = joins

pub returns-clause-before : goal.returns-clause-before
returns-clause-before c = before
