-- A name is missing.
use Rattle.std.proofs.Common.{rules}
use Rattle.std.proofs.lemmas.List.{nil_from_length}
use Rattle.message_values.proofs.Chunks.{nameless}
use Rattle.message_values.proofs.mark.tag_mark.Goals as goal

pub returns-then-is_empty-2 : goal.returns-then-is_empty-2
returns-then-is_empty-2 c = nameless _ _ _ _ c.in-Some.ensures (nil_from_length _ (search rules))
