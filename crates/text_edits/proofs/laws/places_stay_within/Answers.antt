use Rattle.text_edits.proofs.MovedLemmas.{within_through}
use Rattle.text_edits.proofs.laws.places_stay_within.Goals as goal

pub returns-clause-through : goal.returns-clause-through
returns-clause-through c = within_through
