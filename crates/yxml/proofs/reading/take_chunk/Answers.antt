-- Y stands inside a text.
use Rattle.std.proofs.Common.{rules}
use Rattle.yxml.proofs.Tags.{bad-text}
use Rattle.yxml.proofs.reading.take_chunk.Goals as goal

pub returns-then-not-is_empty-2-clause-fault : goal.returns-then-not-is_empty-2-clause-fault
returns-then-not-is_empty-2-clause-fault c = λ ne. bad-text _ _ _ _ _ c.in-Some.ensures (search rules)
