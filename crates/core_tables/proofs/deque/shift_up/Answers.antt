use Rattle.core_tables.proofs.Pieces.{front_of}
use Rattle.core_tables.proofs.deque.shift_up.Goals as goal

pub returns-clause-moved : goal.returns-clause-moved
returns-clause-moved c = front_of _ _ _ _ _ c.requires.order c.requires.within c.rotate_left.ensures.after
