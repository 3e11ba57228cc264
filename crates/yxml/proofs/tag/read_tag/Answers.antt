-- A name is missing.
use Rattle.std.proofs.Common.{rules}
use Rattle.std.proofs.lemmas.List.{nil_from_length}
use Rattle.yxml.proofs.Tags.{bad-tag}
use Rattle.yxml.proofs.tag.read_tag.Goals as goal

pub returns-then-is_empty-clause-err : goal.returns-then-is_empty-clause-err
returns-then-is_empty-clause-err c = λ ne. bad-tag _ _ _ _ c.in-Some.ensures (nil_from_length _ (search rules))
