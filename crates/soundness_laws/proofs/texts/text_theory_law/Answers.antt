use Rattle.soundness_laws.proofs.TextTheories.{text_theory}
use Rattle.soundness_laws.proofs.texts.text_theory_law.Goals as goal

pub returns : goal.returns
returns c text e = text_theory c.facts_law.ensures.document text e
