use Rattle.soundness_laws.proofs.AlikeTerms.{checked_alike}
use Rattle.soundness_laws.proofs.suggested_texts.alike_terms.Goals as goal

pub returns : goal.returns
returns c = checked_alike
