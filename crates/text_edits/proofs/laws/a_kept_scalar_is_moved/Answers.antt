use Rattle.text_edits.proofs.MovedLemmas.{moved_through}
use Rattle.text_edits.proofs.laws.a_kept_scalar_is_moved.Goals as goal

pub returns-clause-through : goal.returns-clause-through
returns-clause-through c = moved_through
