-- What the two edits promise holds of the edit that was matched.
use Rattle.text_edits.proofs.new_text.changed.Goals as goal

pub returns-in-Insert-clause-out_of_range : goal.returns-in-Insert-clause-out_of_range
returns-in-Insert-clause-out_of_range c = rw c.in-Insert.is c.inserted.ensures.out_of_range

pub returns-in-Remove-clause-out_of_range : goal.returns-in-Remove-clause-out_of_range
returns-in-Remove-clause-out_of_range c = rw c.in-Remove.is c.removed.ensures.out_of_range

pub returns-in-Remove-clause-differs : goal.returns-in-Remove-clause-differs
returns-in-Remove-clause-differs c = rw c.in-Remove.is c.removed.ensures.differs
