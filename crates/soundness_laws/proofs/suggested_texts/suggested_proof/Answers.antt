use Rattle.soundness_laws.proofs.SuggestedProofs.{citable_plain, suggested_text}
use Rattle.soundness_laws.proofs.suggested_texts.suggested_proof.Goals as goal

pub returns : goal.returns
returns c goal scope aliases t readable all e =
    suggested_text goal scope aliases t readable all e (c.suggestion_law.ensures goal scope aliases t (citable_plain aliases scope.locals all) e)
