use Rattle.exec_assign.proofs.BelowLemmas.{made_below}
use Rattle.exec_assign.proofs.HeldLemmas.{made_held}
use Rattle.exec_assign.proofs.NumberedFold.{made_in_order}
use Rattle.exec_assign.proofs.laws.new_numbers_law.Goals as goal

pub returns-clause-new : goal.returns-clause-new
returns-clause-new c = λ u first old.
    made_in_order c.kept_law.ensures.all u first old (λ p. (c.order_law.ensures.every u.nodes p).0) (c.order_law.ensures.once u.nodes)

pub returns-clause-held : goal.returns-clause-held
returns-clause-held c = made_held

pub returns-clause-below : goal.returns-clause-below
returns-clause-below c = made_below
