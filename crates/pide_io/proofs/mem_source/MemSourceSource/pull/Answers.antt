-- The bytes at the front of the buffer, with those left, are those that were left before.
use Rattle.std.proofs.Common.{arith}
use Rattle.pide_io.proofs.Left.{moved_front}
use Rattle.pide_io.proofs.mem_source.MemSourceSource.pull.Goals as goal

pub returns-clause-bytes : goal.returns-clause-bytes
returns-clause-bytes c =
    (omega arith, omega arith, rw (← c.self.view_is, ← c.deref-2.ensures.value) (moved_front _ _ _ _ c.copy_front.ensures))
