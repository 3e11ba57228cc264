use Rattle.text_edits.proofs.MovedLemmas.{in_order_through, in_order_all_back}
use Rattle.text_edits.proofs.laws.places_stay_in_order.Goals as goal

pub returns-clause-through : goal.returns-clause-through
returns-clause-through c = in_order_through

pub returns-clause-back : goal.returns-clause-back
returns-clause-back c = in_order_all_back
