use Rattle.text_edits.proofs.EditLemmas.{one_after, one_before}
use Rattle.text_edits.proofs.laws.one_result.Goals as goal

pub returns-clause-after : goal.returns-clause-after
returns-clause-after c = one_after

pub returns-clause-before : goal.returns-clause-before
returns-clause-before c = one_before
