use Rattle.text_edits.proofs.MovedLemmas.{undone_through}
use Rattle.text_edits.proofs.laws.revert_undoes_convert.Goals as goal

pub returns-clause-through : goal.returns-clause-through
returns-clause-through c = undone_through
