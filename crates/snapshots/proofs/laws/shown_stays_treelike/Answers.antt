-- Places stay in order through edits, so what is shown stays so.
use Rattle.snapshots.proofs.Treelike.{shown_so}
use Rattle.snapshots.proofs.laws.shown_stays_treelike.Goals as goal

pub returns : goal.returns
returns c = shown_so c.places_stay_in_order.ensures.through
