use Rattle.report_markup.proofs.CrossLemmas.{cross_iff}
use Rattle.report_markup.proofs.tree_laws.crossing_law.Goals as goal

pub returns : goal.returns
returns c = cross_iff
