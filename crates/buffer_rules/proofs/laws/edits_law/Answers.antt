use Rattle.buffer_rules.proofs.EditLaws.{edits_so}
use Rattle.buffer_rules.proofs.laws.edits_law.Goals as goal

pub returns : goal.returns
returns c edits text after = edits_so edits text after
