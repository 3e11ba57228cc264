-- Y stands inside a text.
use Rattle.std.proofs.Common.{rules}
use Rattle.message_values.proofs.Chunks.{parted_text}
use Rattle.message_values.proofs.mark.chunk_mark.Goals as goal

pub returns-then-not-is_empty : goal.returns-then-not-is_empty
returns-then-not-is_empty c = parted_text _ _ _ _ c.in-Some.ensures (search rules)
