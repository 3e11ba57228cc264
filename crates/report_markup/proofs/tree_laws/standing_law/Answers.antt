use Rattle.report_markup.proofs.StandLemmas.{none_crossed, joins, ordered, all_treelike}
use Rattle.report_markup.proofs.tree_laws.standing_law.Goals as goal

pub returns-clause-ordered : goal.returns-clause-ordered
returns-clause-ordered c = ordered

pub returns-clause-treelike : goal.returns-clause-treelike
returns-clause-treelike c = all_treelike

pub returns-clause-joins : goal.returns-clause-joins
returns-clause-joins c report reports stand none = joins report reports stand (none_crossed report.range reports none)
